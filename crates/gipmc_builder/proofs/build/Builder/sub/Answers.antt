-- One digit more is that of the difference.
use Rattle.std.proofs.Common.{◌+◌, arith, sym, subst}
use Rattle.gipmc_builder.proofs.Built.{keeps_then}
use Rattle.gipmc_builder.proofs.Differences.{DifferenceSoFar, difference_all, difference_more}
use Rattle.gipmc_builder.proofs.build.Builder.sub.Goals as goal

pub loop-place-preserved : goal.loop-place-preserved
loop-place-preserved c = (
  keeps_then c.loop-place.invariant.0 c.sub_bits.ensures.keeps,
  subst (λ zs. DifferenceSoFar c.sub_bits.new.self.circuit c.args.left.now c.args.right.now (c.loop-place.place + 1) zs
      c.in_ok-low.high)
      (sym c.in_ok-push.ensures.items)
      (difference_more c.loop-place.self.circuit c.sub_bits.new.self.circuit c.args.left.now c.args.right.now
      c.loop-place.difference.items c.loop-place.place c.bit_at.result c.bit_at-in-loop-place.result c.loop-place.borrow
      c.in_ok-low.low c.in_ok-low.high c.bit_at.ensures c.bit_at-in-loop-place.ensures c.loop-place.invariant.1
      c.sub_bits.ensures.keeps c.in_ok-low.ensures.gives),
)

pub returns-clause-gives : goal.returns-clause-gives
returns-clause-gives c =
    difference_all c.loop-place.self.circuit c.args.left.now c.args.right.now c.loop-place.difference.items c.loop-place.place
    c.loop-place.borrow c.loop-place.invariant.1 (omega (arith, c.width_of-width.ensures.left, c.loop-place-test.false))
    (omega (arith, c.width_of-width.ensures.right, c.loop-place-test.false))
