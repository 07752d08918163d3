use Rattle.std.proofs.Common.{arith}
use Rattle.giputils_bits.proofs.Ranged.{SetsRange-none, SetsRange-more, SetsRange-all}
use Rattle.giputils_bits.proofs.bitvec.words.set_range.Goals as goal

pub loop-k-init : goal.loop-k-init
loop-k-init c = SetsRange-none _ _ _ _

pub loop-k-preserved : goal.loop-k-preserved
loop-k-preserved c =
    SetsRange-more c.args.start c.args.end c.args.val c.args.words.now c.loop-k.words c.loop-k.k _
    (omega (arith, c.word_count-k-end.ensures, c.requires, c.loop-k.invariant.count))
    (rw c.digits_between.ensures at c.with_digits.ensures) c.loop-k.invariant

pub returns : goal.returns
returns c = SetsRange-all _ _ _ _ _ c.loop-k.k (omega (arith, c.word_count-k-end.ensures)) c.loop-k.invariant
