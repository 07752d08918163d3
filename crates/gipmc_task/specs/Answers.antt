-- Answers about bad literals, and when they are right.
use Rattle.std.specs.Prelude.{◌≡◌, ℕ, zero, suc, ◌<◌, ◌^◌, List, [], ◌∷◌, ◌++◌, length, slice_get, Some, ⊤, IsPermutation}
use Rattle.std.specs.List.{range_with_len}
use Rattle.gipsat_cnf.specs.Literals.{Lit}
use Rattle.gipmc_aiger.specs.Lists.{Every}
use Rattle.gipmc_aiger.specs.declared.problem.Property.TheVariants.{Bad, Justice}
use Rattle.gipmc_aiger.specs.declared.problem.Subject.{Subject}
use Rattle.gipmc_aiger.specs.declared.problem.Subject.TheVariants.{All, Any, One}
use Rattle.gipmc_circuits.specs.Prelude.{FailsBy, IsSafe}
use Rattle.gipmc_circuits.specs.declared.circuit.Circuit.{Circuit}
use Rattle.gipmc_engines.specs.Verdicts.{NeverFailsWithin}
use Rattle.gipmc_task.specs.Verdicts.{outcome_of, place_of, places_of}
use Rattle.gipmc_task.specs.declared.answered.Answered.{Answered}
use Rattle.gipmc_task.specs.declared.outcome.Outcome.TheVariants.{Safe}
use Rattle.gipmc_task.specs.declared.output.AnswerOrder.{AnswerOrder}
use Rattle.gipmc_task.specs.declared.output.AnswerOrder.TheVariants.{Known, Places}
use Rattle.gipmc_task.specs.declared.verdict.Verdict.{Verdict}
use Rattle.gipmc_task.specs.declared.verdict.Verdict.TheVariants as verdict

-- what the verdict says of the bad literal holds
abbrev pub IsKnown : Circuit → Lit → Verdict → Type 0
IsKnown c bad (verdict.Fails trace) = FailsBy c bad trace
IsKnown c bad (verdict.Holds by) = IsSafe c bad
IsKnown c bad (verdict.ClearTo n) = NeverFailsWithin c bad n
IsKnown c bad verdict.Unknown = ⊤

-- no trace fails within these depths, each of which fits a word
abbrev pub AreClear : Circuit → Lit → List ℕ → Type 0
AreClear c bad depths = Every (λ n. NeverFailsWithin c bad n × (n < 2 ^ 64)) depths

-- the answer is a right one on the bad literal at a place, which a text may name
abbrev pub Tells : Circuit → ℕ → Answered → Type 0
Tells c place a =
    (a.property ≡ Bad place) × (place < 2 ^ 31)
    × ((bad : Lit) × (slice_get c.bads.items place ≡ Some bad) × IsKnown c bad a.verdict
    × AreClear c bad a.depths.items)

-- the circuit is safe as to each of its bad literals
abbrev pub IsSafeAll : Circuit → Type 0
IsSafeAll c = (k : ℕ) (bad : Lit) → slice_get c.bads.items k ≡ Some bad → IsSafe c bad

-- the answer is one on a bad literal in place of all: it says that this is safe only where each of them is
abbrev pub TellsAny : Circuit → Answered → Type 0
TellsAny c a = ((place : ℕ) × Tells c place a) × (outcome_of a.verdict ≡ Safe → IsSafeAll c)

-- the answers are those of the first n places in turn, where this holds of each place and its answer
abbrev pub TellsFirst : (ℕ → Answered → Type 0) → ℕ → List Answered → Type 0
TellsFirst P zero answers = answers ≡ []
TellsFirst P (suc n) answers =
    (before : List Answered) × (last : Answered) × TellsFirst P n before × P n last × (answers ≡ before ++ last ∷ [])

-- the answers are those of the first n places, each place once, in whatever order, where this holds of each and its place
pub record TellsEach (P : ℕ → Answered → Type 0) (n : ℕ) (answers : List Answered) : Type 0 where
  pub once : IsPermutation (range_with_len 0 n) (places_of answers)
  pub right : Every (λ a. P (place_of a.property) a) answers

-- the answers are those of the first n places in this order
abbrev pub TellsAll : AnswerOrder → (ℕ → Answered → Type 0) → ℕ → List Answered → Type 0
TellsAll Places P n answers = TellsFirst P n answers
TellsAll Known P n answers = TellsEach P n answers

-- there is one answer, and this holds of it
abbrev pub TellsOne : (Answered → Type 0) → List Answered → Type 0
TellsOne P answers = (a : Answered) × (answers ≡ a ∷ []) × P a

-- the answers are right ones on each bad literal, in this order, on whether any fails, or on the one that is asked about;
-- none where a justice property is
abbrev pub TellsAsked : Circuit → Subject → AnswerOrder → List Answered → Type 0
TellsAsked c All order answers = TellsAll order (Tells c) (length c.bads.items) answers
TellsAsked c Any order answers = TellsOne (TellsAny c) answers
TellsAsked c (One (Bad place)) order answers = TellsOne (Tells c place) answers
TellsAsked c (One (Justice place)) order answers = answers ≡ []

-- the literals are all bad ones of the circuit, of which there are some where any is asked about, or the first of them
-- is the bad one that is asked about
pub record AreAsked (c : Circuit) (asked : Subject) (bads : List Lit) : Type 0 where
  pub all : asked ≡ All → bads ≡ c.bads.items
  pub any : asked ≡ Any → bads ≡ c.bads.items
  pub some : asked ≡ Any → 0 < length c.bads.items
  pub within : (place : ℕ) → asked ≡ One (Bad place) → place < length c.bads.items
  pub first : (place : ℕ) → asked ≡ One (Bad place) → 0 < length bads
  pub same : (place : ℕ) → asked ≡ One (Bad place) → slice_get c.bads.items place ≡ slice_get bads 0
