-- Worked examples of the definitions: accepted and refused ones.
use Rattle.std.proofs.Common.{◌≡◌, ℕ, arith, eqb, inl, negsuc, pos, Bool, true, false, ◌||◌, [], ◌∷◌, refl, suc, zero}
use Rattle.std.proofs.lemmas.Bool.{false≢true}
use Rattle.gipsat_cnf.specs.Prelude.{Assignment, Clause, Formula, Implies, IsCore, IsModel, IsModelUnder, IsNamed, IsNoLiteral, IsSatisfiable, IsSatisfiableUnder, Lit, SaysSame, aiger, clauses_of, code, decoded, dimacs, makes_true, number, retained, satisfies, satisfies_clause}

abbrev yes : ℕ → Lit
yes v = record { variable = v; positive = true }

abbrev not_ : ℕ → Lit
not_ v = record { variable = v; positive = false }

-- DIMACS names variable 3 by 3, and its negation by -3
three_is_three : dimacs (yes 3) ≡ pos 3
three_is_three = refl

its_negation_is_below_zero : dimacs (not_ 3) ≡ negsuc 2
its_negation_is_below_zero = refl

below_zero_names_a_negation : IsNamed (negsuc 2) (not_ 3)
below_zero_names_a_negation = (refl, omega arith)

zero_names_nothing : IsNoLiteral (pos 0)
zero_names_nothing = inl refl

-- AIGER has 6 and 7
aiger_has_six : aiger (yes 3) ≡ 6
aiger_has_six = refl

and_seven : aiger (not_ 3) ≡ 7
and_seven = refl

-- x0 or x1; not x0 or x1
abbrev two : Formula
two = (yes 0 ∷ yes 1 ∷ []) ∷ (not_ 0 ∷ yes 1 ∷ []) ∷ []

-- x1 alone is true
abbrev second : Assignment
second v = eqb v 1

second_satisfies : satisfies second two ≡ true
second_satisfies = refl

-- all are false
none_does_not : satisfies (λ v. false) two ≡ false
none_does_not = refl

two_is_satisfiable : IsSatisfiable two
two_is_satisfiable = (second, refl)

-- the empty clause is satisfied by nothing, and the empty formula by everything
empty_clause : (a : Assignment) → satisfies_clause a [] ≡ false
empty_clause a = refl

empty_formula : (a : Assignment) → satisfies a [] ≡ true
empty_formula a = refl

contradiction_is_not : IsSatisfiable ((yes 0 ∷ []) ∷ (not_ 0 ∷ []) ∷ []) → ⊥
contradiction_is_not (a, sat) = by_value (a 0) sat
  where
    by_value : (b : Bool) → satisfies (λ v. b) ((yes 0 ∷ []) ∷ (not_ 0 ∷ []) ∷ []) ≡ true → ⊥
    by_value true e = false≢true e
    by_value false e = false≢true e

-- x1 follows, and x0 does not
second_follows : Implies two (yes 1 ∷ [])
second_follows = record { follows = λ a all. by_values (a 0) (a 1) all }
  where
    by_values : (b c : Bool) → satisfies (λ v. elim v [ zero ↦ b | suc n ↦ c ]) two ≡ true
        → satisfies_clause (λ v. c) (yes 1 ∷ []) ≡ true
    by_values b true e = refl
    by_values true false e = e
    by_values false false e = e

first_does_not : Implies two (yes 0 ∷ []) → ⊥
first_does_not implied = false≢true (implied.follows second refl)

-- x1 alone says the same as the two clauses; x0 does not
says_same : SaysSame two ((yes 1 ∷ []) ∷ [])
says_same a = ((λ sat. from_unit (a 0) (a 1) sat), (λ sat. to_unit (a 0) (a 1) sat))
  where
    from_unit : (b c : Bool) → satisfies (λ v. c) ((yes 1 ∷ []) ∷ []) ≡ true → satisfies (λ v. elim v [ zero ↦ b | suc n ↦ c ]) two ≡ true
    from_unit true true e = refl
    from_unit false true e = refl
    from_unit b false e = absurd (false≢true e)

    to_unit : (b c : Bool) → satisfies (λ v. elim v [ zero ↦ b | suc n ↦ c ]) two ≡ true → satisfies (λ v. c) ((yes 1 ∷ []) ∷ []) ≡ true
    to_unit b true e = refl
    to_unit true false e = absurd (false≢true e)
    to_unit false false e = absurd (false≢true e)

says_same_refused : SaysSame two ((yes 0 ∷ []) ∷ []) → ⊥
says_same_refused same = false≢true ((same second).1 refl)

spans : clauses_of (yes 0 ∷ yes 1 ∷ not_ 0 ∷ []) (record { start = 0; end = 2 } ∷ record { start = 2; end = 3 } ∷ []) ≡ (yes 0 ∷ yes 1 ∷ []) ∷ (not_ 0 ∷ []) ∷ []
spans = refl

-- the second of three goes, and the third has no flag
middle_goes : retained {A = Clause} (true ∷ false ∷ []) ((yes 0 ∷ []) ∷ (yes 1 ∷ []) ∷ (yes 2 ∷ []) ∷ []) ≡ (yes 0 ∷ []) ∷ (yes 2 ∷ []) ∷ []
middle_goes = refl

-- a literal and its number, both ways
codes : code (not_ 3) ≡ 6
codes = refl

codes_back : decoded 7 ≡ yes 3
codes_back = refl

-- a literal and its negation: every assignment satisfies the clause
tautology_holds : (a : Assignment) → satisfies_clause a (yes 0 ∷ not_ 0 ∷ []) ≡ true
tautology_holds a = by_value (a 0)
  where
    by_value : (b : Bool) → satisfies_clause (λ v. b) (yes 0 ∷ not_ 0 ∷ []) ≡ true
    by_value true = refl
    by_value false = refl

-- a literal twice is as the literal once
literal_twice : satisfies_clause second (yes 1 ∷ yes 1 ∷ []) ≡ true
literal_twice = refl

literal_twice_refused : satisfies_clause second (yes 0 ∷ yes 0 ∷ []) ≡ false
literal_twice_refused = refl

-- a variable that no clause has may have either value
other_variable : satisfies (λ v. eqb v 1 || eqb v 9) two ≡ true
other_variable = refl

-- a list of literals, all of which are true, or not
makes_both_true : makes_true second (yes 1 ∷ not_ 0 ∷ []) ≡ true
makes_both_true = refl

makes_true_refused : makes_true second (yes 1 ∷ yes 0 ∷ []) ≡ false
makes_true_refused = refl

makes_none_true : (a : Assignment) → makes_true a [] ≡ true
makes_none_true a = refl

two_is_satisfiable_under : IsSatisfiableUnder two (yes 1 ∷ not_ 0 ∷ [])
two_is_satisfiable_under = (second, refl, refl)

-- not x1 can't be assumed; x0 can
core : IsCore two (yes 0 ∷ not_ 1 ∷ []) (not_ 1 ∷ [])
core = record {
  among = λ l has. (suc has.0, has.1);
  refuted = λ sat. by_values (sat.0 0) (sat.0 1) sat.1 sat.2;
}
  where
    by_values : (b c : Bool) → satisfies (λ v. elim v [ zero ↦ b | suc n ↦ c ]) two ≡ true
        → makes_true (λ v. c) (not_ 1 ∷ []) ≡ true → ⊥
    by_values b true all is = false≢true is
    by_values true false all is = false≢true all
    by_values false false all is = false≢true all

core_refused : IsCore two (yes 0 ∷ not_ 1 ∷ []) (yes 0 ∷ []) → ⊥
core_refused is = is.refuted ((λ v. true), refl, refl)

model : IsModel two (false ∷ true ∷ [])
model = refl

model_refused : IsModel two (true ∷ []) → ⊥
model_refused is = false≢true is

-- a variable past the end of a model is false
model_under : IsModelUnder two (yes 1 ∷ not_ 7 ∷ []) (false ∷ true ∷ [])
model_under = (refl, refl)

model_under_refused : IsModelUnder two (yes 7 ∷ []) (false ∷ true ∷ []) → ⊥
model_under_refused is = false≢true is.1

-- six, with its lowest digit first
six : number (false ∷ true ∷ true ∷ []) ≡ 6
six = refl
