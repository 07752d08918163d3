-- What clauses say that encode a problem: what they add to a formula, and how many of some literals they make true.
--
-- How it is proved: building a formula. Let each private function ensure the meaning of its clauses for an assignment,
-- in both directions (`Adds`). Functions that add one to three clauses close (gipsat_uses `proofs/Unrolling`,
-- `Followed`). A state as a function of its places, `state_of (λ i. a (from + i)) n`, needs no arithmetic.
use Rattle.std.specs.Prelude.{◌≡◌, ◌↔◌, ℕ, ◌<◌, List, [], ◌∷◌, ◌++◌, map, slice_get, Some, IsTrue}
use Rattle.gipsat_cnf.specs.Formulas.{Assignment, Clause, Formula, Has, is_true, satisfies}
use Rattle.gipsat_cnf.specs.Literals.{Lit, negated}

-- the new formula says what the old one says and the property, no more and no less
abbrev pub Adds : (Assignment → Type 0) → Formula → Formula → Type 0
Adds Means old new = (a : Assignment) → IsTrue (satisfies a new) ↔ (IsTrue (satisfies a old) × Means a)

-- the new formula says what the old one says, and of the property a part, or nothing
abbrev pub AddsPart : (Assignment → Type 0) → Formula → Formula → Type 0
AddsPart Means old new =
    (a : Assignment) → (IsTrue (satisfies a new) → IsTrue (satisfies a old))
    × (IsTrue (satisfies a old) → Means a → IsTrue (satisfies a new))

-- it holds at each number below n
abbrev pub AllBelow : ℕ → (ℕ → Type 0) → Type 0
AllBelow n Holds = (i : ℕ) → i < n → Holds i

-- at least one of the literals is true
abbrev pub AtLeastOneTrue : List Lit → Assignment → Type 0
AtLeastOneTrue literals a = (l : Lit) × Has literals l × IsTrue (is_true a l)

-- at most one of the literals is true: no two at different places
abbrev pub AtMostOneTrue : List Lit → Assignment → Type 0
AtMostOneTrue literals a =
    (i j : ℕ) (l m : Lit) → slice_get literals i ≡ Some l → slice_get literals j ≡ Some m
    → IsTrue (is_true a l) → IsTrue (is_true a m) → i ≡ j

-- exactly one of the literals is true
abbrev pub ExactlyOneTrue : List Lit → Assignment → Type 0
ExactlyOneTrue literals a = AtLeastOneTrue literals a × AtMostOneTrue literals a

-- the clause that one of two literals is false
abbrev pub one_false : Lit → Lit → Clause
one_false l m = negated l ∷ negated m ∷ []

-- the clause that at least one of the literals is true
abbrev pub at_least_one : List Lit → Formula
at_least_one literals = literals ∷ []

-- the clauses that at most one of the literals is true, one for each pair
abbrev pub at_most_one : List Lit → Formula
at_most_one [] = []
at_most_one (l ∷ literals) = map (one_false l) literals ++ at_most_one literals

-- the clauses that exactly one of the literals is true
abbrev pub exactly_one : List Lit → Formula
exactly_one literals = at_least_one literals ++ at_most_one literals
