-- Worked examples of clauses that choose among literals: accepted and refused ones.
use Rattle.std.proofs.Common.{◌≡◌, ℕ, true, false, [], ◌∷◌, arith, eqb, refl}
use Rattle.gipsat_cnf.specs.Prelude.{Assignment, AtLeastOneTrue, AtMostOneTrue, Lit, at_most_one, exactly_one, satisfies}
use Rattle.gipsat_cnf.proofs.Places.{none_some}

abbrev yes : ℕ → Lit
yes v = record { variable = v; positive = true }

abbrev not_ : ℕ → Lit
not_ v = record { variable = v; positive = false }

-- a clause for each pair
pairs : at_most_one (yes 0 ∷ yes 1 ∷ yes 2 ∷ [])
    ≡ (not_ 0 ∷ not_ 1 ∷ []) ∷ (not_ 0 ∷ not_ 2 ∷ []) ∷ (not_ 1 ∷ not_ 2 ∷ []) ∷ []
pairs = refl

-- none of no literal is asked for at most, and one at least
no_pair : at_most_one [] ≡ []
no_pair = refl

none_of_none : (a : Assignment) → AtLeastOneTrue [] a → ⊥
none_of_none a (l, (k, at), is) = none_some l at

-- x1 alone is true
abbrev second : Assignment
second v = eqb v 1

second_is_one : satisfies second (exactly_one (yes 0 ∷ yes 1 ∷ yes 2 ∷ [])) ≡ true
second_is_one = refl

all_are_too_many : satisfies (λ v. true) (exactly_one (yes 0 ∷ yes 1 ∷ [])) ≡ false
all_are_too_many = refl

none_is_too_few : satisfies (λ v. false) (exactly_one (yes 0 ∷ yes 1 ∷ [])) ≡ false
none_is_too_few = refl

-- a literal twice can't be true
twice : AtMostOneTrue (yes 1 ∷ yes 1 ∷ []) second → ⊥
twice most = differ (most 0 1 (yes 1) (yes 1) refl refl refl refl)
  where
    differ : ◌≡◌ {A = ℕ} 0 1 → ⊥
    differ same = omega (arith, same)
