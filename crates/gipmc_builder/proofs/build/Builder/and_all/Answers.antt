-- One literal more is to be true.
use Rattle.gipmc_builder.proofs.Built.{keeps_then}
use Rattle.gipmc_builder.proofs.Gates.{all_all, all_more}
use Rattle.gipmc_builder.proofs.build.Builder.and_all.Goals as goal

pub loop-place-preserved : goal.loop-place-preserved
loop-place-preserved c = (
  keeps_then c.loop-place.invariant.0 c.and.ensures.keeps,
  all_more c.loop-place.self.circuit c.and.new.self.circuit c.args.literals.now c.loop-place.place c.index-literals-place.result
      c.loop-place.all c.in_ok-all.all c.loop-place-test.true c.index-literals-place.is c.loop-place.invariant.1 c.and.ensures.keeps
      c.in_ok-all.ensures.gives,
)

pub returns-clause-gives : goal.returns-clause-gives
returns-clause-gives c =
    all_all c.loop-place.self.circuit c.args.literals.now c.loop-place.place c.loop-place.all c.loop-place.invariant.1
    c.loop-place-test.false
