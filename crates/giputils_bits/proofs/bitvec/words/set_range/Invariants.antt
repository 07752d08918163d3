-- The words before k are written.
use Rattle.std.proofs.Common.{◌*◌}
use Rattle.giputils_bits.specs.Places.{SetsRange}
use Rattle.giputils_bits.proofs.bitvec.words.set_range.Given as goal

abbrev pub invariant-loop-k : goal.invariant-loop-k
invariant-loop-k l = SetsRange l.start l.end l.val l.initial.words l.words (64 * l.k)
