use Rattle.std.proofs.Common.{◌∙◌, length, ap}
use Rattle.giputils_bits.proofs.Words.{length-with_word}
use Rattle.giputils_bench.proofs.vectors.vector.Goals as goal

pub loop-k-preserved : goal.loop-k-preserved
loop-k-preserved c = ap length c.set_word.ensures ∙ length-with_word _ _ _ ∙ c.loop-k.invariant
