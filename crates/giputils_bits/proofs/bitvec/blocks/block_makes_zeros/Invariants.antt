-- What is made of the words before k is gathered.
use Rattle.giputils_bits.proofs.ZeroWords.{GathersZeros}
use Rattle.giputils_bits.proofs.bitvec.blocks.block_makes_zeros.Given as goal

abbrev pub invariant-loop-k : goal.invariant-loop-k
invariant-loop-k g l = GathersZeros g.O.WordOp.made l.words l.others l.made l.k
