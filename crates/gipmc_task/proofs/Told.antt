-- What is told of a property, and of one more.
use Rattle.std.proofs.Common.{◌≡◌, ℕ, suc, ◌+◌, ◌<◌, ◌^◌, List, [], ◌∷◌, ◌++◌, Some, arith, refl, subst}
use Rattle.std.specs.Prelude.{slice_get, Option, None, Result, Ok, Err, IfOk, IfSome}
use Rattle.gipsat_cnf.specs.Literals.{Lit}
use Rattle.gipmc_aiger.specs.declared.problem.Property.{Property}
use Rattle.gipmc_aiger.specs.declared.problem.Property.TheVariants.{Bad}
use Rattle.gipmc_circuits.specs.declared.circuit.Circuit.{Circuit}
use Rattle.gipmc_engines.specs.Verdicts.{NeverFailsWithin}
use Rattle.gipmc_task.proofs.Each.{every_append}
use Rattle.gipmc_task.proofs.Written.{IsWritten-more}
use Rattle.gipmc_task.specs.Answers.{AreClear, IsKnown, Tells, TellsFirst}
use Rattle.gipmc_task.specs.Output.{IsWritten}
use Rattle.gipmc_task.specs.Verdicts.{IsAnswerBy, answer_text, depths_text, text_of}
use Rattle.gipmc_task.specs.declared.answered.Answered.{Answered}
use Rattle.gipmc_task.specs.declared.verdict.Verdict.{Verdict}
use Rattle.gipmc_task.specs.declared.verdict.Verdict.TheVariants.{ClearTo}

pub TellsFirst-more : (P : ℕ → Answered → Type 0) (n : ℕ) (answers : List Answered) (a : Answered)
    → TellsFirst P n answers → P n a → TellsFirst P (n + 1) (answers ++ a ∷ [])
TellsFirst-more P n answers a told tells =
    let next : suc n ≡ n + 1 = omega arith in
    subst (λ k. TellsFirst P k (answers ++ a ∷ [])) next (answers, a, told, tells, refl)

-- what is answered by what is known of a literal, behind depths
pub Tells-by : (c : Circuit) (place : ℕ) (bad : Lit) (depths : List ℕ) (v : Verdict) (a : Answered)
    → slice_get c.bads.items place ≡ Some bad → AreClear c bad depths → IsKnown c bad v
    → IsAnswerBy (Bad place) depths v a → Tells c place a
Tells-by c place bad depths v a here clear right (of, told, says, small) =
    (of, small, (bad, here, rw says right, rw told clear))

-- the text of an answer is written where the depths are, and then the verdict
pub IsWritten-answer : {E : Type 0} (one two three : Option E) (old mid new : Option (List ℕ))
    → (property : Property) (depths : List ℕ) (v : Verdict) (a : Answered) → IsAnswerBy property depths v a
    → IsWritten one two old mid (depths_text depths) → IsWritten two three mid new (text_of property v)
    → IsWritten one three old new (answer_text a)
IsWritten-answer one two three old mid new property depths v a (of, told, says, small) before last =
    rw (of, told, says)
    (IsWritten-more one two three old mid new (depths_text depths) (text_of property v) before last)

-- so is it where there are no depths
pub IsWritten-alone : {E : Type 0} (one two : Option E) (old new : Option (List ℕ)) (property : Property) (v : Verdict)
    → (a : Answered) → IsAnswerBy property [] v a → IsWritten one two old new (text_of property v)
    → IsWritten one two old new (answer_text a)
IsWritten-alone one two old new property v a (of, told, says, small) written = rw (of, told, says) written

-- nothing fails up to one depth more
pub AreClear-more : (c : Circuit) (bad : Lit) (depths : List ℕ) (n : ℕ) → AreClear c bad depths
    → NeverFailsWithin c bad n → n < 2 ^ 64 → AreClear c bad (depths ++ n ∷ [])
AreClear-more c bad depths n all never fits =
    every_append (λ k. NeverFailsWithin c bad k × (k < 2 ^ 64)) depths (n ∷ []) all ((never, fits), tt)

-- if a depth is known, nothing fails up to it
pub some_clear : (r : Option ℕ) (v : Verdict) (c : Circuit) (bads : List Lit) (k : ℕ)
    → IfSome r (λ n. v ≡ ClearTo n)
    → ((bad : Lit) → slice_get bads k ≡ Some bad → IsKnown c bad v)
    → IfSome r (λ n. (bad : Lit) → slice_get bads k ≡ Some bad → NeverFailsWithin c bad n)
some_clear None v c bads k is right = tt
some_clear (Some n) v c bads k is right = λ bad here. subst (λ w. IsKnown c bad w) is (right bad here)

-- what follows from two things that an answer says
pub ok_both : {T E : Type 0} (P Q R : T → Type 0) (r : Result T E) → ((t : T) → P t → Q t → R t) → IfOk r P → IfOk r Q
    → IfOk r R
ok_both P Q R (Ok t) more p q = more t p q
ok_both P Q R (Err e) more p q = tt
