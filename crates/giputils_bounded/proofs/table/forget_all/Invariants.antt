use Rattle.std.proofs.Common.{◌≡◌, ℕ, ◌≤◌, length, Some}
use Rattle.giputils_bounded.specs.Table.{place_in}
use Rattle.giputils_bounded.proofs.table.forget_all.Given as goal

abbrev pub invariant-loop-key : goal.invariant-loop-key
invariant-loop-key g l = record {
  size : length l.places ≡ length l.fn.places;
  left : (n i : ℕ) → place_in l.places n ≡ Some i → (l.key-index ≤ i) × (place_in l.fn.places n ≡ Some i);
}
