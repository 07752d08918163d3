-- One digit more is that of the number which is chosen.
use Rattle.std.proofs.Common.{◌+◌, arith, sym, subst}
use Rattle.gipmc_builder.proofs.Built.{keeps_then}
use Rattle.gipmc_builder.proofs.Numbers.{ChoiceSoFar, choice_all, choice_more}
use Rattle.gipmc_builder.proofs.build.Builder.choose.Goals as goal

pub loop-place-preserved : goal.loop-place-preserved
loop-place-preserved c = (
  keeps_then c.loop-place.invariant.0 c.mux.ensures.keeps,
  subst (ChoiceSoFar c.mux.new.self.circuit c.args.selector c.args.left.now c.args.right.now (c.loop-place.place + 1))
      (sym c.in_ok-push.ensures.items)
      (choice_more c.loop-place.self.circuit c.mux.new.self.circuit c.args.selector c.args.left.now c.args.right.now
      c.loop-place.chosen.items c.loop-place.place c.bit_at.result c.bit_at-in-loop-place.result c.in_ok-bit.bit c.bit_at.ensures
      c.bit_at-in-loop-place.ensures c.loop-place.invariant.1 c.mux.ensures.keeps c.in_ok-bit.ensures.gives),
)

pub returns-clause-gives : goal.returns-clause-gives
returns-clause-gives c =
    choice_all c.loop-place.self.circuit c.args.selector c.args.left.now c.args.right.now c.loop-place.chosen.items
    c.loop-place.place c.loop-place.invariant.1 (omega (arith, c.width_of-width.ensures.left, c.loop-place-test.false))
    (omega (arith, c.width_of-width.ensures.right, c.loop-place-test.false))
