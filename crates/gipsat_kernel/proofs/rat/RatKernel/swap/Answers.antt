use Rattle.std.proofs.Common.{subst}
use Rattle.gipsat_kernel.specs.Kernel.{original_among}
use Rattle.gipsat_kernel.specs.Rat.{KeepsSatisfiable}
use Rattle.gipsat_kernel.proofs.RatLemmas.{IsRatKernel-swapped, KeepsSatisfiable-swapped}
use Rattle.gipsat_kernel.proofs.rat.RatKernel.swap.Goals as goal

pub invariant_of-self : goal.invariant_of-self
invariant_of-self c =
    IsRatKernel-swapped c.self.inside.held.items c.self.inside.clauses c.swap.new.self c.self.inside.noted c.self.inside.marks c.self.inside.is_open
    c.swap.ensures.len c.swap.ensures.literals c.self.invariant

pub returns : goal.returns
returns c =
    subst (λ old. KeepsSatisfiable old (original_among c.self.inside.held.items c.swap.new.self)) c.self.view_is
    (KeepsSatisfiable-swapped c.self.inside.held.items c.self.inside.clauses c.swap.new.self c.swap.ensures.literals)
