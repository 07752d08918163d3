use Rattle.std.proofs.Common.{◌∙◌, subst}
use Rattle.gipsat_kernel.specs.Kernel.{OriginalStay}
use Rattle.gipsat_kernel.proofs.Kernels.{IsKernel-collected}
use Rattle.gipsat_kernel.proofs.Originals.{original_among-retained}
use Rattle.gipsat_kernel.proofs.kernel.Kernel.collect.Goals as goal

pub invariant_of-self : goal.invariant_of-self
invariant_of-self c =
    rw (c.in_ok-clauses.ensures, c.in_ok-original.ensures, c.deref-2.ensures.value)
    (IsKernel-collected c.keep_original.new.stays c.self.inside.original.items c.self.inside.clauses c.self.inside.marks c.self.inside.is_open
    (subst (λ fs. OriginalStay fs c.keep_original.new.stays) c.deref.ensures.value c.keep_original.ensures) c.self.invariant)

pub returns : goal.returns
returns c =
    rw (c.in_ok-clauses.ensures, c.in_ok-original.ensures, c.deref-2.ensures.value)
    (original_among-retained c.keep_original.new.stays c.self.inside.original.items c.self.inside.clauses
    (subst (λ fs. OriginalStay fs c.keep_original.new.stays) c.deref.ensures.value c.keep_original.ensures) ∙ c.self.view_is)
