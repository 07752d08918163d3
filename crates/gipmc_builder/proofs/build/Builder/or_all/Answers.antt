-- One literal more may be true.
use Rattle.gipmc_builder.proofs.Built.{keeps_then}
use Rattle.gipmc_builder.proofs.Gates.{any_all, any_more}
use Rattle.gipmc_builder.proofs.build.Builder.or_all.Goals as goal

pub loop-place-preserved : goal.loop-place-preserved
loop-place-preserved c = (
  keeps_then c.loop-place.invariant.0 c.or.ensures.keeps,
  any_more c.loop-place.self.circuit c.or.new.self.circuit c.args.literals.now c.loop-place.place c.index-literals-place.result
      c.loop-place.any c.in_ok-any.any c.loop-place-test.true c.index-literals-place.is c.loop-place.invariant.1 c.or.ensures.keeps
      c.in_ok-any.ensures.gives,
)

pub returns-clause-gives : goal.returns-clause-gives
returns-clause-gives c =
    any_all c.loop-place.self.circuit c.args.literals.now c.loop-place.place c.loop-place.any c.loop-place.invariant.1
    c.loop-place-test.false
