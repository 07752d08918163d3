-- The places below `start` are taken, and there is room for the rest.
use Rattle.std.proofs.Common.{◌-◌, ◌≤◌, length}
use Rattle.giputils.specs.Ones.{true_count}
use Rattle.giputils_uses.proofs.TakenPlaces.{TakenBelow}
use Rattle.giputils_uses.proofs.small_set.take_places.Given as goal

abbrev pub invariant-loop-place : goal.invariant-loop-place
invariant-loop-place g l = record {
  taken : TakenBelow l.start l.fn.bits l.bits l.places.items;
  room : true_count l.fn.bits ≤ l.places.cap;
}

abbrev pub decreases-loop-place : goal.decreases-loop-place
decreases-loop-place g l = length l.bits - l.start
