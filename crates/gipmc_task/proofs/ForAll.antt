-- What is known of several bad literals together, and what is told in place of all.
use Rattle.std.proofs.Common.{◌≡◌, ⊎_elim, ◌⊎◌, inl, inr, ℕ, ◌+◌, ◌<◌, ◌≤◌, List, [], Some, None, length, arith, subst, sym}
use Rattle.std.specs.Prelude.{get_or, slice_get}
use Rattle.std.proofs.lemmas.Bool.{cases_lt}
use Rattle.std.proofs.lemmas.Option.{slice_get_cases}
use Rattle.gipsat_cnf.specs.Literals.{Lit}
use Rattle.gipmc_circuits.specs.Circuit.{IsSafe}
use Rattle.gipmc_circuits.specs.declared.circuit.Circuit.{Circuit}
use Rattle.gipmc_task.specs.Answers.{IsKnown, TellsAny}
use Rattle.gipmc_task.specs.Verdicts.{IsAnswerBy, outcome_of}
use Rattle.gipmc_task.specs.declared.answered.Answered.{Answered}
use Rattle.gipmc_task.specs.declared.verdict.Verdict.{Verdict}
use Rattle.gipmc_task.specs.declared.verdict.Verdict.TheVariants as verdict
use Rattle.gipmc_aiger.specs.declared.problem.Property.TheVariants.{Bad}
use Rattle.gipmc_task.proofs.Told.{Tells-by}
use Rattle.gipmc_task.specs.declared.outcome.Outcome.TheVariants.{Open, Safe}

-- what is open is not safe
pub none_open : {X : Type 0} → Open ≡ Safe → X
none_open same = absurd cc

-- a literal of which is known that it is safe is so
pub known_safe : (c : Circuit) (bad : Lit) (k : Verdict) → outcome_of k ≡ Safe → IsKnown c bad k → IsSafe c bad
known_safe c bad (verdict.Fails trace) is right = absurd cc
known_safe c bad (verdict.Holds by) is right = right
known_safe c bad (verdict.ClearTo n) is right = absurd cc
known_safe c bad verdict.Unknown is right = absurd cc

-- so is the one at a place
safe_at : (c : Circuit) (bads : List Lit) (place k : ℕ) (v : Verdict) (bad : Lit)
    → ((b : Lit) → slice_get bads place ≡ Some b → IsKnown c b v) → outcome_of v ≡ Safe
    → k ≡ place → slice_get bads k ≡ Some bad → IsSafe c bad
safe_at c bads place k v bad right is same here =
    known_safe c bad v is (right bad (subst (λ j. slice_get bads j ≡ Some bad) same here))

-- the first one alone
pub safe-first : (c : Circuit) (bads : List Lit) (v : Verdict)
    → ((b : Lit) → slice_get bads 0 ≡ Some b → IsKnown c b v) → outcome_of v ≡ Safe
    → (k : ℕ) (bad : Lit) → k < 1 → slice_get bads k ≡ Some bad → IsSafe c bad
safe-first c bads v right is k bad less here = safe_at c bads 0 k v bad right is (omega (arith, less)) here

-- and one more
pub safe-more : (c : Circuit) (bads : List Lit) (n : ℕ) (v : Verdict)
    → ((k : ℕ) (bad : Lit) → k < n → slice_get bads k ≡ Some bad → IsSafe c bad)
    → ((b : Lit) → slice_get bads n ≡ Some b → IsKnown c b v) → outcome_of v ≡ Safe
    → (k : ℕ) (bad : Lit) → k < n + 1 → slice_get bads k ≡ Some bad → IsSafe c bad
safe-more c bads n v before right is k bad less here =
    ⊎_elim (λ lower. before k bad lower here)
    (λ past. safe_at c bads n k v bad right is (omega (arith, less, past)) here)
    (cases_lt k n)

-- within a list there is something at a place
found_in : {X : Type 0} (xs : List X) (i : ℕ) → i < length xs
    → (((x : X) × (i < length xs) × (slice_get xs i ≡ Some x) × (get_or xs i x ≡ x))
    ⊎ ((length xs ≤ i) × (slice_get xs i ≡ None)))
    → (x : X) × (slice_get xs i ≡ Some x)
found_in xs i within (inl (x, less, here, is)) = (x, here)
found_in xs i within (inr (past, none)) = absurd (omega (arith, within, past))

-- what is answered about the literal at a place is so in place of all, where it says that this is safe only if all are
pub TellsAny-by : (c : Circuit) (bads : List Lit) (place : ℕ) (v : Verdict) (a : Answered)
    → bads ≡ c.bads.items → place < length bads
    → ((bad : Lit) → slice_get bads place ≡ Some bad → IsKnown c bad v)
    → (outcome_of v ≡ Safe → (i : ℕ) (bad : Lit) → slice_get bads i ≡ Some bad → IsSafe c bad)
    → IsAnswerBy (Bad place) [] v a → TellsAny c a
TellsAny-by c bads place v a same within right safe (of, told, says, small) =
    let (bad, here) = found_in bads place within (slice_get_cases bads place).1 in (
      (
        place,
        Tells-by c place bad [] v a (subst (λ bs. slice_get bs place ≡ Some bad) same here) tt (right bad here)
            (of, told, says, small),
      ),
      λ all i other there.
          safe (subst (λ w. outcome_of w ≡ Safe) says all) i other (subst (λ bs. slice_get bs i ≡ Some other) (sym same) there),
    )
