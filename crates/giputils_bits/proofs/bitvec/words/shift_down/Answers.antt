use Rattle.std.proofs.Common.{◌≡◌, length, arith}
use Rattle.giputils_bits.proofs.Shifted.{MovesDown-none, MovesDown-more}
use Rattle.giputils_bits.proofs.bitvec.words.shift_down.Goals as goal

pub loop-k-init : goal.loop-k-init
loop-k-init c = MovesDown-none _ _

pub loop-k-preserved : goal.loop-k-preserved
loop-k-preserved c = MovesDown-more _ _ _ _ _ (omega arith) c.moved_down.ensures c.loop-k.invariant

pub returns : goal.returns
returns c = let all : c.loop-k.k ≡ length c.args.words.now = omega arith in rw all at c.loop-k.invariant
