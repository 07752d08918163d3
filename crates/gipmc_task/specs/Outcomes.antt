-- What is known of properties together.
use Rattle.gipmc_task.specs.declared.outcome.Outcome.{Outcome}
use Rattle.gipmc_task.specs.declared.outcome.Outcome.TheVariants.{Fails, Safe, Open}

-- of two: one fails, both hold, or neither is known
abbrev pub both : Outcome → Outcome → Outcome
both Fails other = Fails
both Safe other = other
both Open Fails = Fails
both Open Safe = Open
both Open Open = Open
