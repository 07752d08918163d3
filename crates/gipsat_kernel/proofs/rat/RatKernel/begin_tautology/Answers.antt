use Rattle.std.proofs.Common.{◌≡◌, true, subst}
use Rattle.gipsat_kernel.specs.Marks.{is_marked}
use Rattle.gipsat_kernel.proofs.RatLemmas.{IsRatKernel-tautology}
use Rattle.gipsat_kernel.proofs.rat.RatKernel.begin_tautology.Goals as goal

pub invariant_of-self-2 : goal.invariant_of-self-2
invariant_of-self-2 c =
    IsRatKernel-tautology c.self.inside.held.items c.self.inside.clauses c.self.inside.noted c.add.new.self c.add-2.new.self c.args.l c.self.invariant.as_many
    c.self.invariant.covers
    c.in_ok-add.ensures.added c.in_ok-add-2.ensures.grows
    (subst (λ m. is_marked c.add-2.new.self m ≡ true) c.negated.ensures c.in_ok-add-2.ensures.added)
