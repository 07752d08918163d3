-- The items are the old ones, followed by as many defaults as the loop has made, and there is room for the rest.
use Rattle.std.proofs.Common.{◌≡◌, ◌≤◌, ◌+◌, ◌-◌, length, ◌++◌, List}
use Rattle.std.specs.Prelude.{All}
use Rattle.giputils_vec.proofs.gvec.Gvec.reserve.Given as goal

abbrev pub invariant-loop : goal.invariant-loop
invariant-loop g l = record {
  missing : l.missing ≡ l.size - length l.fn.self;
  room : length l.fn.self + l.missing ≤ l.self-inside.items.cap;
  filled : (fill : List g.row.T.Denot) × (l.self-inside.items.items ≡ l.fn.self ++ fill) × (length fill ≡ l.counter) × All g.T.Default.is_default fill;
}
