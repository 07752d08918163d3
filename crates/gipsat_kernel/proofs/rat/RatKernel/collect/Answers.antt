use Rattle.std.proofs.Common.{ap, length, true, ◌∙◌}
use Rattle.std.proofs.lemmas.List.{length-replicate}
use Rattle.gipsat_kernel.specs.Kernel.{original_among}
use Rattle.gipsat_kernel.proofs.Originals.{original_among-all}
use Rattle.gipsat_kernel.proofs.RatLemmas.{IsRatKernel-idle, retained-flagged}
use Rattle.gipsat_kernel.proofs.rat.RatKernel.collect.Goals as goal

pub invariant_of-self-2 : goal.invariant_of-self-2
invariant_of-self-2 c =
    IsRatKernel-idle c.in_ok-held.held.items c.in_ok-clauses.clauses c.in_ok-noted.noted _
    (ap length c.in_ok-held.ensures ∙ length-replicate c.len.result true ∙ c.len.ensures) c.in_ok-noted.ensures

pub returns : goal.returns
returns c =
    ap (λ fs. original_among fs c.in_ok-clauses.clauses) c.in_ok-held.ensures ∙ original_among-all c.in_ok-clauses.clauses c.len.result c.len.ensures
    ∙ c.in_ok-clauses.ensures ∙ rw c.deref.ensures.value (retained-flagged c.self.inside.held.items c.self.inside.clauses c.self.invariant.as_many)
    ∙ c.self.view_is
