-- The differences of the words before k are gathered.
use Rattle.giputils_bits.proofs.SameWords.{GathersDifferences}
use Rattle.giputils_bits.proofs.bitvec.blocks.same_block.Given as goal

abbrev pub invariant-loop-k : goal.invariant-loop-k
invariant-loop-k l = GathersDifferences l.words l.others l.differences l.k
