-- The status that a check ends with, and what it says.
use Rattle.std.specs.Prelude.{ℕ, List, Option}
use Rattle.gip_cli.specs.Statuses.{refused_status}
use Rattle.gipsat_dimacs.specs.Inputs.{HasForm, OfProblem}
use Rattle.gipsat_dimacs.specs.declared.rule.HeaderRule.TheVariants.{Strict}
use Rattle.gipsat_drat.specs.Outcomes.{WritesOutcome}
use Rattle.gipsat_drat.specs.declared.error.Outcome.{Outcome}
use Rattle.gipsat_drat.specs.declared.error.Outcome.TheVariants.{Verified, Refused}

-- 0 for a verified proof alone
abbrev pub checking_status : Outcome → ℕ
checking_status Verified = 0
checking_status (Refused refusal) = refused_status

-- an input writes a formula that nothing satisfies, and a writer that held the one holds the other after `s VERIFIED`
abbrev pub TellsVerified : Option (List ℕ) → Option (List ℕ) → Option (List ℕ) → Type 0
TellsVerified input old new =
    HasForm Strict input × OfProblem Strict input (λ problem. WritesOutcome problem Verified old new)
