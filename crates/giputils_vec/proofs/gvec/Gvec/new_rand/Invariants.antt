-- What was drawn so far takes the generator to its present state, and there is room for the rest.
use Rattle.std.proofs.Common.{◌≡◌, ◌≤◌}
use Rattle.std.specs.List.{FoldsTo}
use Rattle.giputils_vec.specs.Gvec.{Draws}
use Rattle.giputils_vec.proofs.gvec.Gvec.new_rand.Given as goal

abbrev pub invariant-loop : goal.invariant-loop
invariant-loop g l = record {
  len : l.items.len ≡ l.counter;
  room : l.len ≤ l.items.cap;
  drawn : FoldsTo (Draws (goal.F-post g l.draw)) l.fn.rng l.items.items l.rng;
}
