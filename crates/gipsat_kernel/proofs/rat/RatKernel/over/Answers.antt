use Rattle.std.proofs.Common.{ap, length, true, ◌∙◌}
use Rattle.std.proofs.lemmas.List.{length-replicate}
use Rattle.gipsat_kernel.specs.Kernel.{original_among}
use Rattle.gipsat_kernel.proofs.Originals.{original_among-all}
use Rattle.gipsat_kernel.proofs.RatLemmas.{IsRatKernel-idle}
use Rattle.gipsat_kernel.proofs.rat.RatKernel.over.Goals as goal

pub invariant_of-result : goal.invariant_of-result
invariant_of-result c =
    IsRatKernel-idle c.in_ok-held.held.items c.args.formula c.in_ok-noted.noted _
    (ap length c.in_ok-held.ensures ∙ length-replicate c.len.result true ∙ c.len.ensures) c.in_ok-noted.ensures

pub returns : goal.returns
returns c =
    ap (λ fs. original_among fs c.args.formula) c.in_ok-held.ensures ∙ original_among-all c.args.formula c.len.result c.len.ensures
