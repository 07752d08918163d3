-- One positive input more.
use Rattle.std.proofs.Common.{IsTrue, arith, refl, sym, subst}
use Rattle.std.proofs.lemmas.Grind.{common_steps}
use Rattle.gipmc_builder.specs.Build.{AddsInputs, are_positive, variables_of}
use Rattle.gipmc_builder.proofs.Built.{adds_inputs_then, adds_no_inputs, positive_pushed}
use Rattle.gipmc_builder.proofs.build.Builder.inputs.Goals as goal

pub loop-self-init : goal.loop-self-init
loop-self-init c = (
  subst (λ ls. AddsInputs c.args.self.now.circuit c.args.self.now.circuit (variables_of ls)) (sym c.in_ok-bits.ensures.items)
      (adds_no_inputs c.args.self.now.circuit),
  grind (arith, common_steps),
  rw c.in_ok-bits.ensures.items refl,
)

pub loop-self-preserved : goal.loop-self-preserved
loop-self-preserved c = (
  subst (λ ls. AddsInputs c.args.self.now.circuit c.input.new.self.circuit (variables_of ls)) (sym c.in_ok-push.ensures.items)
      (adds_inputs_then c.loop-self.bits.items c.in_ok-bit.bit c.loop-self.invariant.0 c.in_ok-bit.ensures.adds),
  grind (arith, common_steps),
  subst (λ ls. IsTrue (are_positive ls)) (sym c.in_ok-push.ensures.items)
      (positive_pushed c.loop-self.bits.items c.in_ok-bit.bit c.loop-self.invariant.2 c.in_ok-bit.ensures.positive),
)
