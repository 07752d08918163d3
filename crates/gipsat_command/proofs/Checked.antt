-- What the status of a check says of its outcome, and what was written of it.
use Rattle.std.proofs.Common.{◌≡◌, ℕ, List, Option, Some, None, IfSome, Result, Ok, Err, inl, inr, refl, subst, sym}
use Rattle.std.specs.Prelude.{IfOk, OnOk}
use Rattle.std.specs.Io.KnownBytes.{Appends}
use Rattle.gip_cli.specs.Statuses.{IsEndedStatus}
use Rattle.gipsat_dimacs.specs.Inputs.{HasForm, OfProblem}
use Rattle.gipsat_dimacs.specs.Texts.{Problem, problem_by}
use Rattle.gipsat_dimacs.specs.declared.rule.HeaderRule.{HeaderRule}
use Rattle.gipsat_dimacs.specs.declared.rule.HeaderRule.TheVariants.{Strict}
use Rattle.gipsat_command.specs.Statuses.{TellsVerified, checking_status}
use Rattle.gipsat_drat.specs.Outcomes.{IsRight, WritesOutcome, outcome_text}
use Rattle.gipsat_drat.specs.declared.error.Outcome.{Outcome}
use Rattle.gipsat_drat.specs.declared.error.Outcome.TheVariants.{Verified, Refused}

-- a check ends with 0 or with 1
pub check-ended : (outcome : Outcome) → IsEndedStatus (checking_status outcome)
check-ended Verified = inl refl
check-ended (Refused refusal) = inr refl

-- a check ends with 0 only where the proof is verified
pub verified-told : (input old new : Option (List ℕ)) (outcome : Outcome) → checking_status outcome ≡ 0 → HasForm Strict input
    → OfProblem Strict input (λ problem. WritesOutcome problem outcome old new) → TellsVerified input old new
verified-told input old new Verified is form wrote = (form, wrote)
verified-told input old new (Refused refusal) is form wrote = absurd cc

-- where the outcome of a problem is right, its line is
found-written : (found : Option Problem) (outcome : Outcome) (old new : Option (List ℕ)) → Appends old new (outcome_text outcome)
    → IfSome found (λ problem. IsRight problem.clauses outcome) → IfSome found (λ problem. WritesOutcome problem outcome old new)
found-written None outcome old new wrote right = tt
found-written (Some problem) outcome old new wrote right = (right, wrote)

line-written : (rule : HeaderRule) (input : Option (List ℕ)) (outcome : Outcome) (old new : Option (List ℕ))
    → Appends old new (outcome_text outcome) → OfProblem rule input (λ problem. IsRight problem.clauses outcome)
    → OfProblem rule input (λ problem. WritesOutcome problem outcome old new)
line-written rule None outcome old new wrote right = tt
line-written rule (Some text) outcome old new wrote right = found-written (problem_by rule text) outcome old new wrote right

-- a right outcome was written
pub outcome-written : {E : Type 0} (rule : HeaderRule) (input old new : Option (List ℕ)) (outcome : Outcome) (r : Result Outcome E)
    → OfProblem rule input (λ problem. IsRight problem.clauses outcome) → IfOk r (λ told. told ≡ outcome)
    → OnOk r (Appends old new (outcome_text outcome))
    → IfOk r (λ told. OfProblem rule input (λ problem. WritesOutcome problem told old new))
outcome-written rule input old new outcome (Ok told) right same wrote =
    subst (λ o. OfProblem rule input (λ problem. WritesOutcome problem o old new)) (sym same)
    (line-written rule input outcome old new wrote right)
outcome-written rule input old new outcome (Err e) right same wrote = tt

-- what holds in any case holds where a value came of it
pub on_any : {T E : Type 0} {P : Type 0} (r : Result T E) → P → OnOk r P
on_any (Ok x) holds = holds
on_any (Err e) holds = tt
