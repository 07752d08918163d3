-- Worked examples of the definitions: accepted and refused ones.
use Rattle.std.proofs.Common.{◌≡◌, ℕ, true, false, [], ◌∷◌, arith, eqb, ltb, refl, sym, zero, suc}
use Rattle.std.proofs.lemmas.Bool.{false≢true}
use Rattle.gipsat_cnf.specs.Prelude.{Assignment, Lit}
use Rattle.gipsat_encodings.specs.Counts.{AtLeastTrue, AtMostTrue, ExactlyTrue, count_true}
use Rattle.gipsat_encodings.specs.Extending.{AgreeBelow, SpeaksBelow}
use Rattle.gipsat_encodings.specs.Gates.{HasParity, IsAnd, IsChoice, IsOr, IsXor, parity}
use Rattle.gipsat_encodings.specs.Outputs.{reached}

abbrev yes_ : ℕ → Lit
yes_ v = record { variable = v; positive = true }

abbrev not_ : ℕ → Lit
not_ v = record { variable = v; positive = false }

-- x0 and x1 are true
abbrev first_two : Assignment
first_two v = ltb v 2

two_of_three : count_true first_two (yes_ 0 ∷ yes_ 1 ∷ yes_ 2 ∷ []) ≡ 2
two_of_three = refl

twice_counts_twice : count_true first_two (yes_ 1 ∷ yes_ 1 ∷ []) ≡ 2
twice_counts_twice = refl

negations_count : count_true first_two (not_ 0 ∷ not_ 2 ∷ []) ≡ 1
negations_count = refl

at_most_two : AtMostTrue 2 (yes_ 0 ∷ yes_ 1 ∷ yes_ 2 ∷ []) first_two
at_most_two = omega arith

not_at_most_one : AtMostTrue 1 (yes_ 0 ∷ yes_ 1 ∷ yes_ 2 ∷ []) first_two → ⊥
not_at_most_one most = omega (arith, most)

not_at_least_three : AtLeastTrue 3 (yes_ 0 ∷ yes_ 1 ∷ yes_ 2 ∷ []) first_two → ⊥
not_at_least_three least = omega (arith, least)

none_of_none : ExactlyTrue 0 [] first_two
none_of_none = refl

both_are_even : HasParity (yes_ 0 ∷ yes_ 1 ∷ []) false first_two
both_are_even = refl

one_is_odd : parity first_two (yes_ 1 ∷ yes_ 2 ∷ []) ≡ true
one_is_odd = refl

and_of_both : IsAnd (yes_ 0) (yes_ 1 ∷ not_ 2 ∷ []) first_two
and_of_both = refl

no_and : IsAnd (yes_ 0) (yes_ 1 ∷ yes_ 2 ∷ []) first_two → ⊥
no_and is = false≢true (sym is)

or_of_none : IsOr (yes_ 2) [] first_two
or_of_none = refl

differ_from_each_other : IsXor (yes_ 0) (yes_ 1) (yes_ 2) first_two
differ_from_each_other = refl

the_other_is_chosen : IsChoice (yes_ 0) (yes_ 2) (yes_ 3) (yes_ 1) first_two
the_other_is_chosen = refl

-- outputs x0, x1 and x2 say that two are true
say_two : reached first_two (yes_ 0 ∷ yes_ 1 ∷ yes_ 2 ∷ []) 2 ≡ true
say_two = refl

do_not_say_three : reached first_two (yes_ 0 ∷ yes_ 1 ∷ yes_ 2 ∷ []) 3 ≡ false
do_not_say_three = refl

-- two outputs can't say three
out_of_reach : reached first_two (yes_ 0 ∷ yes_ 1 ∷ []) 3 ≡ false
out_of_reach = refl

agree_on_two : AgreeBelow 2 first_two (λ v. true)
agree_on_two zero less = refl
agree_on_two (suc zero) less = refl
agree_on_two (suc (suc v)) less = absurd (omega (arith, less))

differ_on_three : AgreeBelow 3 first_two (λ v. true) → ⊥
differ_on_three same = false≢true (same 2 (omega arith))

-- x1 is no variable below 1
speaks_of_more : SpeaksBelow 1 ((yes_ 1 ∷ []) ∷ []) → ⊥
speaks_of_more speaks = false≢true (speaks first_two (λ v. eqb v 0) same refl)
  where
    same : AgreeBelow 1 first_two (λ v. eqb v 0)
    same zero less = refl
    same (suc v) less = absurd (omega (arith, less))
