-- Formulas under other names: what satisfies them.
use Rattle.std.proofs.Common.{◌≡◌, ◌≢◌, ◌<◌, ◌≤◌, ℕ, zero, suc, List, [], ◌∷◌, length, take, ◌++◌, ◌+◌, ◌==◌, get_or, Bool, true, false, if◌then◌else◌, refl, sym, ap, ◌∙◌, subst, ⊎_elim, inl, arith}
use Rattle.std.specs.Prelude.{slice_get, Some, IfOk, Result, Ok, Err}
use Rattle.gipsat_cnf.specs.Prelude.{AreAllBelow, AreBelow, Assignment, Clause, Formula, IsModel, IsSatisfiable, IsSatisfiableUnder, Lit, assignment_in, makes_true, satisfies, satisfies_clause}
use Rattle.gipsat_cnf.proofs.Places.{none_some, same_some}
use Rattle.gipsat_answers.specs.Names.{first_names, name_in, named, named_clause, named_literal, names_from, AreNamesOf, IsRising}
use Rattle.std.proofs.lemmas.Bool.{cases_Bool, eq-eqb, eqb-true, false≢true, ne_eqb}
use Rattle.std.proofs.lemmas.List.{map-append, take_more}
use Rattle.std.proofs.lemmas.Option.{get_or_from_slice_get, slice_get-get_or, slice_get_within}

-- what a value has, if there is one, by what it is known to have
pub IfOk-more : {T E : Type 0} {P Q : T → Type 0} (r : Result T E) → ((t : T) → P t → Q t) → IfOk r P → IfOk r Q
IfOk-more (Ok t) more has = more t has
IfOk-more (Err e) more has = tt

-- what its variables' names make of it
satisfies_clause-named : (names : List ℕ) (a : Assignment) (clause : Clause)
    → satisfies_clause a (named_clause names clause) ≡ satisfies_clause (λ v. a (name_in names v)) clause
satisfies_clause-named names a [] = refl
satisfies_clause-named names a (l ∷ clause) = rw (satisfies_clause-named names a clause) refl

-- a formula under names is satisfied as the formula is by the values of the names
pub satisfies-named : (names : List ℕ) (a : Assignment) (f : Formula)
    → satisfies a (named names f) ≡ satisfies (λ v. a (name_in names v)) f
satisfies-named names a [] = refl
satisfies-named names a (clause ∷ f) = rw (satisfies_clause-named names a clause, satisfies-named names a f) refl

module _ (a b : Assignment) (n : ℕ) (alike : (v : ℕ) → v < n → a v ≡ b v) where
  satisfies_clause-alike : (clause : Clause) → AreBelow n clause → satisfies_clause a clause ≡ satisfies_clause b clause
  satisfies_clause-alike [] below = refl
  satisfies_clause-alike (l ∷ clause) below =
      rw (alike l.variable (below zero l refl), satisfies_clause-alike clause (λ k m at. below (suc k) m at)) refl

  -- assignments that agree on a formula's variables satisfy it alike
  pub satisfies-alike : (f : Formula) → AreAllBelow n f → satisfies a f ≡ satisfies b f
  satisfies-alike [] below = refl
  satisfies-alike (clause ∷ f) below =
      rw (satisfies_clause-alike clause (below zero clause refl), satisfies-alike f (λ k c at. below (suc k) c at)) refl

-- without names a formula stays as it is
named_clause-none : (clause : Clause) → named_clause [] clause ≡ clause
named_clause-none [] = refl
named_clause-none (l ∷ clause) = ap (λ rest. l ∷ rest) (named_clause-none clause)

pub named-none : (f : Formula) → named [] f ≡ f
named-none [] = refl
named-none (clause ∷ f) = rw (named_clause-none clause, named-none f) refl

-- a literal more
pub named_clause-more : (names : List ℕ) (clause done : Clause) (i : ℕ) (l m : Lit) → named_clause names done ≡ take i clause
    → i < length clause → get_or clause i m ≡ m → named_literal names l ≡ m
    → named_clause names (done ++ l ∷ []) ≡ take (i + 1) clause
named_clause-more names clause done i l m so_far within at is =
    map-append (named_literal names) done (l ∷ []) ∙ ap (λ xs. xs ++ named_literal names l ∷ []) so_far
    ∙ ap (λ x. take i clause ++ x ∷ []) (is ∙ sym at) ∙ sym (take_more clause i m within)

-- a clause more
pub named-more : (names : List ℕ) (f g : Formula) (i : ℕ) (c d : Clause) → named names f ≡ take i g → slice_get g i ≡ Some d
    → named_clause names c ≡ d → named names (f ++ c ∷ []) ≡ take (i + 1) g
named-more names f g i c d so_far at is =
    let within : i < length g = slice_get_within g i d at in
    map-append (named_clause names) f (c ∷ []) ∙ ap (λ xs. xs ++ named_clause names c ∷ []) so_far
    ∙ ap (λ x. take i g ++ x ∷ []) (is ∙ sym (get_or_from_slice_get g i d c at)) ∙ sym (take_more g i c within)

-- where there is room for some variables, there is for fewer
pub AreAllBelow-more : (m n : ℕ) (f : Formula) → m ≤ n → AreAllBelow m f → AreAllBelow n f
AreAllBelow-more m n f le below = λ k c at i l has. let less = below k c at i l has in omega (arith, le, less)

-- without names
pub AreNamesOf-none : (f : Formula) (names : List ℕ) → names ≡ [] → AreNamesOf f names
AreNamesOf-none f names none = rw none (record { rising = λ i j m n less at. none_some m at; each = inl refl })

-- values of the names that are those of the numbers are a model under the names
pub IsModel-named : (names : List ℕ) (f : Formula) (model values : List Bool) → AreNamesOf f names → names ≢ []
    → ((v : ℕ) → v < length names → assignment_in values (name_in names v) ≡ assignment_in model v)
    → IsModel f model → IsModel (named names f) values
IsModel-named names f model values are some alike sat =
    ⊎_elim (λ none. absurd (some none))
    (λ below. satisfies-named names (assignment_in values) f
    ∙ satisfies-alike (λ v. assignment_in values (name_in names v)) (assignment_in model) (length names) alike f below ∙ sat)
    are.each

-- without names a model stays one
pub IsModel-unnamed : (names : List ℕ) (f : Formula) (model : List Bool) → names ≡ [] → IsModel f model → IsModel (named names f) model
IsModel-unnamed names f model none sat =
    subst (λ ns. IsModel (named ns f) model) (sym none) (subst (λ g. IsModel g model) (sym (named-none f)) sat)

-- a formula that nothing satisfies stays one under names
pub unsatisfiable-named : (names : List ℕ) (f : Formula) → ¬ (IsSatisfiable f) → ¬ (IsSatisfiable (named names f))
unsatisfiable-named names f none (a, sat) = none ((λ v. a (name_in names v)), sym (satisfies-named names a f) ∙ sat)

-- what makes literals true under names
pub makes_true-named : (names : List ℕ) (a : Assignment) (literals : List Lit)
    → makes_true a (named_clause names literals) ≡ makes_true (λ v. a (name_in names v)) literals
makes_true-named names a [] = refl
makes_true-named names a (l ∷ literals) = rw (makes_true-named names a literals) refl

pub makes_true-alike : (a b : Assignment) (n : ℕ) → ((v : ℕ) → v < n → a v ≡ b v) → (literals : List Lit) → AreBelow n literals
    → makes_true a literals ≡ makes_true b literals
makes_true-alike a b n alike [] below = refl
makes_true-alike a b n alike (l ∷ literals) below =
    rw (alike l.variable (below zero l refl), makes_true-alike a b n alike literals (λ k m at. below (suc k) m at)) refl

-- literals that cannot all be true cannot be under names
pub unsatisfiable-under-named : (names : List ℕ) (f : Formula) (assumed : List Lit) → ¬ (IsSatisfiableUnder f assumed)
    → ¬ (IsSatisfiableUnder (named names f) (named_clause names assumed))
unsatisfiable-under-named names f assumed none (a, sat, all) = none (
  (λ v. a (name_in names v)),
  sym (satisfies-named names a f) ∙ sat,
  sym (makes_true-named names a assumed) ∙ all,
)

named-append : (names : List ℕ) (f g : Formula) → named names (f ++ g) ≡ named names f ++ named names g
named-append names f g = map-append (named_clause names) f g

-- clauses more under names
pub named-added : (names : List ℕ) (old made new added : Formula) → new ≡ old ++ made → named names made ≡ added
    → named names new ≡ named names old ++ added
named-added names old made new added is same =
    ap (named names) is ∙ named-append names old made ∙ ap (λ f. named names old ++ f) same

-- the value of a variable by its name: the one at the place where the name stands
abbrev pub value_by : List ℕ → List Bool → Assignment
value_by [] model v = false
value_by (name ∷ names) [] v = false
value_by (name ∷ names) (value ∷ model) v = if v == name then value else value_by names model v

IsRising-rest : (name : ℕ) (names : List ℕ) → IsRising (name ∷ names) → IsRising names
IsRising-rest name names rising i j m n less at there = let more : suc i < suc j = omega (arith, less) in rising (suc i) (suc j) m n more at there

-- it is the model's
pub value_by-name : (names : List ℕ) (model : List Bool) (i n : ℕ) → IsRising names → slice_get names i ≡ Some n
    → value_by names model n ≡ assignment_in model i
value_by-name [] model i n rising at = none_some n at
value_by-name (name ∷ names) [] i n rising at = refl
value_by-name (name ∷ names) (value ∷ model) zero n rising at =
    let same : name ≡ n = same_some name n at in
    let is : (n == name) ≡ true = eq-eqb n name (sym same) in rw is refl
value_by-name (name ∷ names) (value ∷ model) (suc i) n rising at =
    let less : name < n = rising zero (suc i) name n (omega arith) refl at in
    let differ : n ≢ name = omega (arith, less) in
    let other : (n == name) ≡ false = ne_eqb n name differ in
    rw other (value_by-name names model i n (IsRising-rest name names rising) at)

-- where it is true, the name stands somewhere
pub value_by-true : (names : List ℕ) (model : List Bool) (v : ℕ) → value_by names model v ≡ true
    → (k : ℕ) × (slice_get names k ≡ Some v) × (k < length names) × (k < length model)
value_by-true [] model v is = absurd (false≢true is)
value_by-true (name ∷ names) [] v is = absurd (false≢true is)
value_by-true (name ∷ names) (value ∷ model) v is = ⊎_elim
    (λ here. (zero, ap Some (sym (eqb-true v name here)), omega arith, omega arith))
    (λ other. let rest : value_by names model v ≡ true = rw other at is in
    let (k, at, within, valued) = value_by-true names model v rest in (suc k, at, omega (arith, within), omega (arith, valued)))
    (cases_Bool (v == name))

-- the names of some variables, and where they stand
names_from-at : (names : List ℕ) (k n i : ℕ) → i < n → slice_get (names_from names k n) i ≡ Some (name_in names (k + i))
names_from-at names k zero i less = absurd (omega (arith, less))
names_from-at names k (suc n) zero less = let same : k + 0 ≡ k = omega arith in rw same refl
names_from-at names k (suc n) (suc i) less =
    let within : i < n = omega (arith, less) in
    let same : k + 1 + i ≡ k + suc i = omega arith in
    names_from-at names (k + 1) n i within ∙ ap (λ j. Some (name_in names j)) same

length-names_from : (names : List ℕ) (k n : ℕ) → length (names_from names k n) ≡ n
length-names_from names k zero = refl
length-names_from names k (suc n) = ap suc (length-names_from names (k + 1) n)

name_in-at : (names : List ℕ) (i n : ℕ) → slice_get names i ≡ Some n → name_in names i ≡ n
name_in-at names i n at = get_or_from_slice_get names i n i at

-- a name at a place among the first ones stands there among all
first_names-get : (names : List ℕ) (n i m : ℕ) → n ≤ length names → slice_get (first_names names n) i ≡ Some m
    → slice_get names i ≡ Some m
first_names-get names n i m most at =
    let bound : i < length (first_names names n) = slice_get_within (first_names names n) i m at in
    let within : i < n = omega (arith, bound, length-names_from names 0 n) in
    let inside : i < length names = omega (arith, within, most) in
    let here : 0 + i ≡ i = omega arith in
    let is : name_in names i ≡ m = same_some (name_in names i) m
    (ap (λ j. Some (name_in names j)) (sym here) ∙ sym (names_from-at names 0 n i within) ∙ at) in
    slice_get-get_or names i i inside ∙ ap Some is

pub first_names-keeps : (names : List ℕ) (n i m : ℕ) → i < n → slice_get names i ≡ Some m → slice_get (first_names names n) i ≡ Some m
first_names-keeps names n i m less at =
    let here : 0 + i ≡ i = omega arith in
    names_from-at names 0 n i less ∙ ap (λ j. Some (name_in names j)) here ∙ ap Some (name_in-at names i m at)

pub IsRising-first : (names : List ℕ) (n : ℕ) → n ≤ length names → IsRising names → IsRising (first_names names n)
IsRising-first names n most rising i j m p less at there =
    rising i j m p less (first_names-get names n i m most at) (first_names-get names n j p most there)
