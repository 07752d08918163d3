-- The text that is kept is the one that was joined.
use Rattle.std.proofs.Common.{subst, sym}
use Rattle.gipmc_aiger.specs.declared.problem.Subject.TheVariants.{All}
use Rattle.gipmc_task.specs.Certificates.{Certifies}
use Rattle.gipmc_task.specs.Joins.{IsJoined}
use Rattle.gipmc.proofs.join.join_parts.Goals as goal

pub keep-requires : goal.keep-requires
keep-requires c =
    subst (λ t. Certifies c.args.problem.now t All) (sym c.deref.ensures.value)
    (rw (c.in-Ok-Certificate.field-0-is) at (rw (c.in-Ok-Certificate.is) at c.join.ensures))
