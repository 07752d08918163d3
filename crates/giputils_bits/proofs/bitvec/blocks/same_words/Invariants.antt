-- What is left is equal exactly where all is.
use Rattle.std.proofs.Common.{◌≡◌, ◌↔◌, length}
use Rattle.giputils_bits.proofs.bitvec.blocks.same_words.Given as goal

abbrev pub invariant-loop-rest : goal.invariant-loop-rest
invariant-loop-rest l = (length l.rest ≡ length l.others_rest) × ((l.rest ≡ l.others_rest) ↔ (l.fn.words ≡ l.fn.others))

abbrev pub decreases-loop-rest : goal.decreases-loop-rest
decreases-loop-rest l = length l.rest
