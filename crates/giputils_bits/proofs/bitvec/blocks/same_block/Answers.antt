use Rattle.std.proofs.Common.{◌≡◌, length, arith}
use Rattle.giputils_bits.proofs.SameWords.{GathersDifferences-more, same_where_none}
use Rattle.giputils_bits.proofs.bitvec.blocks.same_block.Goals as goal

pub loop-k-preserved : goal.loop-k-preserved
loop-k-preserved c = GathersDifferences-more _ _ _ _ c.loop-k.invariant

pub returns : goal.returns
returns c =
    let all : c.loop-k.k ≡ length c.args.words.now = omega arith in
    same_where_none _ _ _ c.requires (rw all at c.loop-k.invariant)
