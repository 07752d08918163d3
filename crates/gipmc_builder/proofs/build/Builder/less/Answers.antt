-- One digit more is compared.
use Rattle.std.proofs.Common.{arith}
use Rattle.gipmc_builder.proofs.Built.{keeps_then}
use Rattle.gipmc_builder.proofs.Differences.{less_all, less_more}
use Rattle.gipmc_builder.proofs.build.Builder.less.Goals as goal

pub loop-place-preserved : goal.loop-place-preserved
loop-place-preserved c = (
  keeps_then c.loop-place.invariant.0 c.borrow.ensures.keeps,
  less_more c.loop-place.self.circuit c.borrow.new.self.circuit c.args.left.now c.args.right.now c.loop-place.place
      c.bit_at.result c.bit_at-in-loop-place.result c.loop-place.less c.in_ok-less.less c.bit_at.ensures
      c.bit_at-in-loop-place.ensures c.loop-place.invariant.1 c.borrow.ensures.keeps c.in_ok-less.ensures.gives,
)

pub returns-clause-gives : goal.returns-clause-gives
returns-clause-gives c =
    less_all c.loop-place.self.circuit c.args.left.now c.args.right.now c.loop-place.place c.loop-place.less
    c.loop-place.invariant.1 (omega (arith, c.width_of-width.ensures.left, c.loop-place-test.false))
    (omega (arith, c.width_of-width.ensures.right, c.loop-place-test.false))
