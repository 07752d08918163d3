-- So many digits are counted, and `rest` has the others.
use Rattle.giputils_bits.proofs.Text.{Counts}
use Rattle.giputils_bits.proofs.bitvec.text.hex_len.Given as goal

abbrev pub invariant-loop-rest : goal.invariant-loop-rest
invariant-loop-rest l = Counts l.word l.len l.rest

abbrev pub decreases-loop-rest : goal.decreases-loop-rest
decreases-loop-rest l = l.rest
