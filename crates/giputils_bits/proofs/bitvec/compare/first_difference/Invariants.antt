-- The words before k are alike.
use Rattle.std.proofs.Common.{◌*◌}
use Rattle.giputils_bits.specs.Places.{AlikeBelow}
use Rattle.giputils_bits.proofs.bitvec.compare.first_difference.Given as goal

abbrev pub invariant-loop-k : goal.invariant-loop-k
invariant-loop-k l = AlikeBelow l.words l.others (64 * l.k)
