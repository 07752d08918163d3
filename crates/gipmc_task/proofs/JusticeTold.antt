-- What is told of a justice property, and what shows it.
use Rattle.std.proofs.Common.{◌≡◌, ℕ, List, [], ◌∷◌, ◌++◌, Some, Vec}
use Rattle.std.specs.Prelude.{slice_get}
use Rattle.std.specs.declared.alloc.Global.{Global}
use Rattle.gipsat_cnf.specs.Literals.{Lit}
use Rattle.gipmc_aiger.specs.declared.liveness.Liveness.{Liveness}
use Rattle.gipmc_aiger.specs.declared.problem.Property.TheVariants.{Justice}
use Rattle.gipmc_circuits.specs.declared.circuit.Circuit.{Circuit}
use Rattle.gipmc_engines.specs.Liveness.{IsRightVerdict}
use Rattle.gipmc_engines.specs.declared.liveness.verdict.Verdict as engines
use Rattle.gipmc_engines.specs.declared.liveness.verdict.Verdict.TheVariants as engine
use Rattle.gipmc_reduce.proofs.Looped.{FailsForever-lasso}
use Rattle.gipmc_task.proofs.Each.{every_append}
use Rattle.gipmc_task.specs.Justice.Answers.{AreShown, IsKnown, IsShown, IsShownAt, Tells, verdict_by}
use Rattle.gipmc_task.specs.Verdicts.{IsAnswerBy}
use Rattle.gipmc_task.specs.declared.answered.Answered.{Answered}
use Rattle.gipmc_task.specs.declared.verdict.Verdict.{Verdict}

-- what an engine finds out is so
pub IsKnown-by : (c : Circuit) (fairness justice : List Lit) (v : engines.Verdict) → IsRightVerdict c fairness justice v
    → IsKnown c fairness justice (verdict_by v)
IsKnown-by c fairness justice (engine.Fails lasso) right =
    ((lasso.start, right), FailsForever-lasso c fairness justice lasso right)
IsKnown-by c fairness justice (engine.Live means invariant) right = right.live
IsKnown-by c fairness justice engine.Unknown right = tt

-- what is answered by what is known of the property at a place
pub Tells-by : (c : Circuit) (l : Liveness) (place : ℕ) (justice : Vec Lit Global) (v : Verdict) (a : Answered)
    → slice_get l.justice.items place ≡ Some justice → IsKnown c l.fairness.items justice.items v
    → IsAnswerBy (Justice place) [] v a → Tells c l place a
Tells-by c l place justice v a here right (of, told, says, small) =
    (of, small, told, (justice, here, rw says right))

pub IsShownAt-by : (c : Circuit) (l : Liveness) (place : ℕ) (justice : Vec Lit Global) (v : Verdict) (a : Answered)
    → slice_get l.justice.items place ≡ Some justice → IsShown c l.fairness.items justice.items v
    → IsAnswerBy (Justice place) [] v a → IsShownAt c l a place
IsShownAt-by c l place justice v a here shown (of, told, says, small) = (justice, here, rw says shown)

-- of one property more
pub AreShown-more : (c : Circuit) (l : Liveness) (answers : List Answered) (a : Answered) (place : ℕ)
    → AreShown c l answers → Tells c l place a → IsShownAt c l a place → AreShown c l (answers ++ a ∷ [])
AreShown-more c l answers a place all (of, small, told, right) shown =
    every_append (λ x. (k : ℕ) × (x.property ≡ Justice k) × IsShownAt c l x k) answers (a ∷ []) all ((place, of, shown), tt)
