-- The status that a run ends with.
use Rattle.std.specs.Prelude.{ℕ, Bool, Result, Ok, Err, codes, if◌then◌else◌}
use Rattle.gip_cli.specs.Asked.{asked_said, has}
use Rattle.gip_cli.specs.Statuses.{refused_status}
use Rattle.gipmc_command.specs.declared.options.Options.{Options}
use Rattle.gipmc_task.specs.declared.outcome.Outcome.{Outcome}
use Rattle.gipmc_task.specs.declared.outcome.Outcome.TheVariants.{Fails, Safe, Open}

-- of an outcome
abbrev pub outcome_status : Outcome → ℕ
outcome_status Fails = 10
outcome_status Safe = 20
outcome_status Open = 0

-- whatever a search finds, 0 is asked for
abbrev pub exits_zero : Options → Bool
exits_zero o = has (codes "--exit-zero") (asked_said o.asked)

-- of a search: that of its outcome, or 0 where that is asked for
abbrev pub search_status : {E : Type 0} → Bool → Result Outcome E → ℕ
search_status zero (Ok outcome) = if zero then 0 else outcome_status outcome
search_status zero (Err error) = refused_status

-- of a check of an answer: 0 for a verified one alone
abbrev pub verified_status : {E : Type 0} → Result Bool E → ℕ
verified_status (Ok verified) = if verified then 0 else refused_status
verified_status (Err error) = refused_status
