-- From word k on each place has moved.
use Rattle.std.proofs.Common.{◌*◌, ◌≤◌, length}
use Rattle.giputils_bits.specs.Places.{MovesUp}
use Rattle.giputils_bits.proofs.bitvec.words.shift_up.Given as goal

abbrev pub invariant-loop-k : goal.invariant-loop-k
invariant-loop-k l = record { within : l.k ≤ length l.words; moves : MovesUp l.n l.initial.words l.words (64 * l.k) }

abbrev pub decreases-loop-k : goal.decreases-loop-k
decreases-loop-k l = l.k
