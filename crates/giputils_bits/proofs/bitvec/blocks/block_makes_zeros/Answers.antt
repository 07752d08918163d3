use Rattle.std.proofs.Common.{◌≡◌, length, arith}
use Rattle.giputils_bits.proofs.ZeroWords.{GathersZeros-more, zeros_where_none}
use Rattle.giputils_bits.proofs.bitvec.blocks.block_makes_zeros.Goals as goal

pub loop-k-preserved : goal.loop-k-preserved
loop-k-preserved g c = GathersZeros-more _ _ _ _ _ _ c.apply-made.ensures c.loop-k.invariant

pub returns : goal.returns
returns g c =
    let all : c.loop-k.k ≡ length c.args.words.now = omega arith in
    zeros_where_none _ _ _ _ (rw all at c.loop-k.invariant)
