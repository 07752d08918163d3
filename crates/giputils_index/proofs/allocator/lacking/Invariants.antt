-- No more keys are lacking than were looked up.
use Rattle.std.proofs.Common.{◌≤◌}
use Rattle.giputils_index.proofs.allocator.lacking.Given as goal

abbrev pub invariant-loop-key : goal.invariant-loop-key
invariant-loop-key g l = record { few : l.count ≤ l.key-index }
