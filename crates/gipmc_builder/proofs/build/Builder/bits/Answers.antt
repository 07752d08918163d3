-- One positive bit more.
use Rattle.std.proofs.Common.{IsTrue, arith, sym, subst, ◌∙◌}
use Rattle.std.proofs.lemmas.Grind.{common_steps}
use Rattle.gipmc_builder.specs.Build.{are_positive}
use Rattle.gipmc_builder.proofs.Built.{positive_pushed}
use Rattle.gipmc_builder.proofs.build.Builder.bits.Goals as goal

pub loop-self-preserved : goal.loop-self-preserved
loop-self-preserved c = (
  c.bit.ensures.same ∙ c.loop-self.invariant.0,
  grind (arith, common_steps),
  subst (λ ls. IsTrue (are_positive ls)) (sym c.in_ok-push.ensures.items)
      (positive_pushed c.loop-self.bits.items c.in_ok-bit.bit c.loop-self.invariant.2 c.in_ok-bit.ensures.positive),
)
