-- Worked examples: answers about justice properties, and some that are refused.
use Rattle.std.proofs.Common.{◌≡◌, ℕ, List, [], ◌∷◌, Vec, Some, refl, subst}
use Rattle.std.specs.Prelude.{slice_get}
use Rattle.std.specs.declared.alloc.Global.{Global}
use Rattle.gipsat_cnf.specs.Literals.{Lit}
use Rattle.gipsat_cnf.proofs.Places.{none_some, same_at}
use Rattle.gipmc_aiger.specs.declared.liveness.Liveness.{Liveness}
use Rattle.gipmc_aiger.specs.declared.problem.Property.TheVariants.{Justice}
use Rattle.gipmc_circuits.specs.declared.circuit.Circuit.{Circuit}
use Rattle.gipmc_reduce.specs.Liveness.{FailsForever, IsLive}
use Rattle.gipmc_task.specs.Answers.{TellsFirst}
use Rattle.gipmc_task.specs.Justice.Answers.{AreShown, IsKnown, IsShown, Tells}
use Rattle.gipmc_task.specs.Certificates.{CertifiesLive}
use Rattle.gipmc_task.specs.Verdicts.{IsAnswerBy, outcome_of}
use Rattle.gipmc_task.specs.declared.answered.Answered.{Answered}
use Rattle.gipmc_task.specs.declared.outcome.Outcome.TheVariants.{Fails}
use Rattle.gipmc_task.specs.declared.verdict.Evidence.TheVariants.{Invariant}
use Rattle.gipmc_task.specs.declared.verdict.Verdict.{Verdict}
use Rattle.gipmc_task.specs.declared.verdict.Verdict.TheVariants as verdict
use Rattle.gipmc_task.proofs.JusticeTold.{AreShown-more, IsShownAt-by, Tells-by}

-- nothing may be known of a property, and so nothing shows it
tells_nothing : (c : Circuit) (l : Liveness) (justice : Vec Lit Global) (a : Answered)
    → slice_get l.justice.items 0 ≡ Some justice → IsAnswerBy (Justice 0) [] verdict.Unknown a
    → Tells c l 0 a × AreShown c l (a ∷ [])
tells_nothing c l justice a here is =
    let told = Tells-by c l 0 justice verdict.Unknown a here tt is in
    let shown = IsShownAt-by c l 0 justice verdict.Unknown a here tt is in
    (told, AreShown-more c l [] a 0 tt told shown)

-- no property has no answer
tells_of_none : (c : Circuit) (l : Liveness) → TellsFirst (Tells c l) 0 []
tells_of_none c l = refl

-- of a property that holds no answer may say that it fails
fails_by : (c : Circuit) (fairness justice : List Lit) (v : Verdict) → outcome_of v ≡ Fails
    → IsKnown c fairness justice v → FailsForever c fairness justice
fails_by c fairness justice (verdict.Fails trace) is (lasso, fails) = fails
fails_by c fairness justice (verdict.Holds by) is right = absurd cc
fails_by c fairness justice (verdict.ClearTo n) is right = absurd cc
fails_by c fairness justice verdict.Unknown is right = absurd cc

refused-fails : (c : Circuit) (l : Liveness) (justice : Vec Lit Global) (a : Answered)
    → slice_get l.justice.items 0 ≡ Some justice → IsLive c l.fairness.items justice.items → outcome_of a.verdict ≡ Fails
    → ¬ (Tells c l 0 a)
refused-fails c l justice a here live says (of, small, told, (other, there, right)) =
    live
    (subst (λ j. FailsForever c l.fairness.items j.items) (same_at l.justice.items 0 other 0 justice refl there here)
    (fails_by c l.fairness.items other.items a.verdict says right))

-- nor may one say of it up to which depth nothing fails
refused-clear : (c : Circuit) (l : Liveness) (a : Answered) (n : ℕ) → a.verdict ≡ verdict.ClearTo n → ¬ (Tells c l 0 a)
refused-clear c l a n says (of, small, told, (justice, here, right)) = rw says at right

-- an invariant of the circuit itself does not show a justice property
refused-invariant : (c : Circuit) (fairness justice : List Lit) → ¬ (IsShown c fairness justice (verdict.Holds Invariant))
refused-invariant c fairness justice shown = shown

-- no text certifies a property that is not there
refused-no_property : (c : Circuit) (l : Liveness) (text : List ℕ) → l.justice.items ≡ [] → ¬ (CertifiesLive c l text 0)
refused-no_property c l text none (justice, here, live) = none_some justice (rw none at here)
