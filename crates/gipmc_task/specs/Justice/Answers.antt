-- Answers about justice properties, and when they are right.
use Rattle.std.specs.Prelude.{◌≡◌, ℕ, ◌<◌, ◌^◌, List, [], Vec, length, slice_get, Some, ⊤}
use Rattle.std.specs.declared.alloc.Global.{Global}
use Rattle.gipsat_cnf.specs.Literals.{Lit}
use Rattle.gipmc_aiger.specs.Lists.{Every}
use Rattle.gipmc_aiger.specs.declared.liveness.Liveness.{Liveness}
use Rattle.gipmc_aiger.specs.declared.problem.Property.TheVariants.{Bad, Justice}
use Rattle.gipmc_aiger.specs.declared.problem.Subject.{Subject}
use Rattle.gipmc_aiger.specs.declared.problem.Subject.TheVariants.{All, Any, One}
use Rattle.gipmc_circuits.specs.declared.circuit.Circuit.{Circuit}
use Rattle.gipmc_engines.specs.declared.liveness.verdict.Verdict as engines
use Rattle.gipmc_engines.specs.declared.liveness.verdict.Verdict.TheVariants as engine
use Rattle.gipmc_reduce.specs.Liveness.{FailsForever, IsLive}
use Rattle.gipmc_reduce.specs.Longer.{IsLiveByClauses}
use Rattle.gipmc_task.specs.Answers.{TellsFirst, TellsOne}
use Rattle.gipmc_task.specs.Witnesses.{IsLassoBy}
use Rattle.gipmc_task.specs.declared.answered.Answered.{Answered}
use Rattle.gipmc_task.specs.declared.verdict.Evidence.TheVariants.{Invariant, Induction, Longer}
use Rattle.gipmc_task.specs.declared.verdict.Verdict.{Verdict}
use Rattle.gipmc_task.specs.declared.verdict.Verdict.TheVariants as verdict

-- what the verdict says of the justice property holds: it fails by a lasso, or the circuit is live. Of depths it says
-- nothing
abbrev pub IsKnown : Circuit → List Lit → List Lit → Verdict → Type 0
IsKnown c fairness justice (verdict.Fails trace) = IsLassoBy c fairness justice trace × FailsForever c fairness justice
IsKnown c fairness justice (verdict.Holds by) = IsLive c fairness justice
IsKnown c fairness justice (verdict.ClearTo n) = ⊥
IsKnown c fairness justice verdict.Unknown = ⊤

-- the answer is a right one on the property at a place, which a text may name; no depths were told before
abbrev pub Tells : Circuit → Liveness → ℕ → Answered → Type 0
Tells c l place a =
    (a.property ≡ Justice place) × (place < 2 ^ 31) × (a.depths.items ≡ [])
    × ((justice : Vec Lit Global) × (slice_get l.justice.items place ≡ Some justice)
    × IsKnown c l.fairness.items justice.items a.verdict)

-- the answers are right ones on each property, or on the one that is asked about; none where bad literals alone are
abbrev pub TellsAsked : Circuit → Liveness → Subject → List Answered → Type 0
TellsAsked c l All answers = TellsFirst (Tells c l) (length l.justice.items) answers
TellsAsked c l Any answers = answers ≡ []
TellsAsked c l (One (Bad place)) answers = answers ≡ []
TellsAsked c l (One (Justice place)) answers = TellsOne (Tells c l place) answers

-- where the verdict says that the property holds, clauses of an invariant show it
abbrev pub IsShown : Circuit → List Lit → List Lit → Verdict → Type 0
IsShown c fairness justice (verdict.Fails trace) = ⊤
IsShown c fairness justice (verdict.Holds Invariant) = ⊥
IsShown c fairness justice (verdict.Holds (Induction k)) = ⊥
IsShown c fairness justice (verdict.Holds (Longer means invariant)) =
    IsLiveByClauses c fairness justice means invariant.items
IsShown c fairness justice (verdict.ClearTo n) = ⊤
IsShown c fairness justice verdict.Unknown = ⊤

-- so do those of an answer on the property at a place
abbrev pub IsShownAt : Circuit → Liveness → Answered → ℕ → Type 0
IsShownAt c l a place =
    (justice : Vec Lit Global) × (slice_get l.justice.items place ≡ Some justice)
    × IsShown c l.fairness.items justice.items a.verdict

-- so do those of each answer
abbrev pub AreShown : Circuit → Liveness → List Answered → Type 0
AreShown c l answers = Every (λ a. (place : ℕ) × (a.property ≡ Justice place) × IsShownAt c l a place) answers

-- what an engine found out, as a verdict: a lasso without its start
abbrev pub verdict_by : engines.Verdict → Verdict
verdict_by (engine.Fails lasso) = verdict.Fails lasso.trace
verdict_by (engine.Live means invariant) = verdict.Holds (Longer means invariant)
verdict_by engine.Unknown = verdict.Unknown
