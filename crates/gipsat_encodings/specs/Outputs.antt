-- Outputs that count literals: the output at place j says that more than j of them are true.
use Rattle.std.specs.Prelude.{◌≡◌, ◌↔◌, ℕ, zero, suc, ◌+◌, ◌<◌, ◌≤◌, Bool, true, false, not, List, length, slice_get, Option, Some, None, IsTrue, min}
use Rattle.gipsat_cnf.specs.Prelude.{AddsPart, AllBelow, AreBelow, Assignment, Formula, Lit, is_true, satisfies}
use Rattle.gipsat_encodings.specs.Counts.{count_true}
use Rattle.gipsat_encodings.specs.Extending.{AgreeBelow, SpeaksBelow}

-- the literal's value; where there is none, what is given
abbrev pub value_or : Bool → Assignment → Option Lit → Bool
value_or given a None = given
value_or given a (Some l) = is_true a l

-- the outputs say that at least so many literals are true, which they can say up to their own number
abbrev pub reached : Assignment → List Lit → ℕ → Bool
reached a outputs zero = true
reached a outputs (suc n) = value_or false a (slice_get outputs n)

-- they say n or more, or not more than n
abbrev pub says : Bool → Assignment → List Lit → ℕ → Bool
says true a outputs n = reached a outputs n
says false a outputs n = not (reached a outputs (suc n))

-- what the left say at i and the right at j, the sums say at i + j
abbrev pub SaysSum : Bool → List Lit → List Lit → List Lit → Assignment → ℕ → ℕ → Type 0
SaysSum up left right sums a i j =
    i + j ≤ length sums → IsTrue (says up a left i) → IsTrue (says up a right j) → IsTrue (says up a sums (i + j))

-- at all places of the left and the right outputs
abbrev pub SaySums : Bool → List Lit → List Lit → List Lit → Assignment → Type 0
SaySums up left right sums a =
    AllBelow (length left + 1) (λ i. AllBelow (length right + 1) (SaysSum up left right sums a i))

-- the outputs say so many, or more
abbrev pub SayAtLeast : List Lit → ℕ → Assignment → Type 0
SayAtLeast outputs n a = (i : ℕ) → i ≤ length outputs → i ≤ n → IsTrue (reached a outputs i)

-- the outputs say so many, or less
abbrev pub SayAtMost : List Lit → ℕ → Assignment → Type 0
SayAtMost outputs n a = (i : ℕ) → i ≤ length outputs → IsTrue (reached a outputs i) → i ≤ n

-- the variables of the literals are those from n on, in order
abbrev pub AreFresh : ℕ → List Lit → Type 0
AreFresh n literals = (k : ℕ) (l : Lit) → slice_get literals k ≡ Some l → l ≡ record { variable = n + k; positive = true }

-- the sums of outputs, each way where it is wanted
abbrev pub AreSums : Bool → Bool → List Lit → List Lit → List Lit → Assignment → Type 0
AreSums up down left right sums a = (IsTrue up → SaySums true left right sums a) × (IsTrue down → SaySums false left right sums a)

-- Of the clauses of sums of outputs, whose variables are those from n on, a part is added, or none.
pub record SumsPart (up down : Bool) (size n m : ℕ) (left right : List Lit) (old new : Formula) : Type 0 where
  pub sums : List Lit
  pub sized : length sums ≡ min (length left + length right) size
  pub fresh : AreFresh n sums
  pub part : AddsPart (AreSums up down left right sums) old new
  pub speaks : AreBelow n left → AreBelow n right → SpeaksBelow n old → SpeaksBelow m new

-- A formula grows by outputs that count literals up to a size, with the variables from n on, below m: they say as many
-- as are true in each model, or more where `up` is set, and or less where `down` is; and each model of the old formula
-- is one of the new in which they say exactly as many, once the variables from n on have other values.
pub record Counts (up down : Bool) (size n m : ℕ) (literals outputs : List Lit) (old new : Formula) : Type 0 where
  pub rises : n ≤ m
  pub sized : length outputs ≡ min (length literals) size
  pub below : AreBelow m outputs
  pub at_least : (a : Assignment) → IsTrue (satisfies a new) → IsTrue up → SayAtLeast outputs (count_true a literals) a
  pub at_most : (a : Assignment) → IsTrue (satisfies a new) → IsTrue down → SayAtMost outputs (count_true a literals) a
  pub keeps : (a : Assignment) → IsTrue (satisfies a new) → IsTrue (satisfies a old)
  pub complete : SpeaksBelow n old → (a : Assignment) → IsTrue (satisfies a old)
      → (b : Assignment) × AgreeBelow n a b × IsTrue (satisfies b new)
      × SayAtLeast outputs (count_true b literals) b × SayAtMost outputs (count_true b literals) b
  pub speaks : SpeaksBelow n old → SpeaksBelow m new

-- the output at each place says whether more of the literals are true than its place's number
abbrev pub TellCount : List Lit → List Lit → Assignment → Type 0
TellCount outputs literals a =
    (j : ℕ) (o : Lit) → slice_get outputs j ≡ Some o → IsTrue (is_true a o) ↔ (j < count_true a literals)
