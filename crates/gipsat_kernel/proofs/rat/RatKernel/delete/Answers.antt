use Rattle.std.proofs.Common.{set, false, subst, ◌∙◌}
use Rattle.std.proofs.lemmas.List.{length-set}
use Rattle.gipsat_kernel.specs.Kernel.{original_among}
use Rattle.gipsat_kernel.specs.Rat.{KeepsSatisfiable}
use Rattle.gipsat_kernel.proofs.RatLemmas.{IsRatKernel-idle, KeepsSatisfiable-deleted}
use Rattle.gipsat_kernel.proofs.rat.RatKernel.delete.Goals as goal

pub invariant_of-self-2 : goal.invariant_of-self-2
invariant_of-self-2 c =
    IsRatKernel-idle (set c.self.inside.held.items c.args.id false) c.self.inside.clauses c.self.inside.noted c.self.inside.marks
    (length-set c.self.inside.held.items c.args.id false ∙ c.self.invariant.as_many) c.self.invariant.covers

pub returns : goal.returns
returns c =
    subst (λ old. KeepsSatisfiable old (original_among (set c.self.inside.held.items c.args.id false) c.self.inside.clauses)) c.self.view_is
    (KeepsSatisfiable-deleted c.self.inside.held.items c.self.inside.clauses c.args.id)
