-- The clauses of the formula among the working clauses, by their flags.
use Rattle.std.proofs.Common.{◌≡◌, ℕ, ◌+◌, ◌<◌, ◌≤◌, List, [], ◌∷◌, ◌++◌, length, Some, sym, ap, subst, ◌∙◌, arith, ⊎_elim, Bool, true, false, IsTrue, suc, zero, refl}
use Rattle.std.specs.Prelude.{slice_get, slice_index_or, replicate}
use Rattle.std.proofs.lemmas.Bool.{false≢true, and_from, cases_Bool, cases_lt}
use Rattle.std.proofs.lemmas.Option.{slice_get_within}
use Rattle.gipsat_cnf.specs.Prelude.{AreAllBelow, AreAmong, Assignment, Clause, Implies, IsAmong, KeepsBut, SaysSame, retained, satisfies, satisfies_clause}
use Rattle.gipsat_kernel.specs.Kernel.{OriginalStay, original_among}
use Rattle.gipsat_cnf.proofs.Formulas.{satisfies-at, satisfies-each}
use Rattle.gipsat_cnf.proofs.Places.{none_some, same_some}

-- a clause of the formula more
pub original_among-original : (flags : List Bool) (cs : List Clause) (c : Clause) → length flags ≡ length cs
    → original_among (flags ++ true ∷ []) (cs ++ c ∷ []) ≡ original_among flags cs ++ c ∷ []
original_among-original [] [] c same = refl
original_among-original (true ∷ flags) (d ∷ cs) c same = ap (λ f. d ∷ f) (original_among-original flags cs c (omega (arith, same)))
original_among-original (false ∷ flags) (d ∷ cs) c same = original_among-original flags cs c (omega (arith, same))
original_among-original [] (d ∷ cs) c same = absurd (omega (arith, same))
original_among-original (flag ∷ flags) [] c same = absurd (omega (arith, same))

-- a derived clause more
pub original_among-derived : (flags : List Bool) (cs : List Clause) (c : Clause) → length flags ≡ length cs
    → original_among (flags ++ false ∷ []) (cs ++ c ∷ []) ≡ original_among flags cs
original_among-derived [] [] c same = refl
original_among-derived (true ∷ flags) (d ∷ cs) c same = ap (λ f. d ∷ f) (original_among-derived flags cs c (omega (arith, same)))
original_among-derived (false ∷ flags) (d ∷ cs) c same = original_among-derived flags cs c (omega (arith, same))
original_among-derived [] (d ∷ cs) c same = absurd (omega (arith, same))
original_among-derived (flag ∷ flags) [] c same = absurd (omega (arith, same))

-- all clauses are of the formula
pub original_among-all : (cs : List Clause) (n : ℕ) → n ≡ length cs → original_among (replicate n true) cs ≡ cs
original_among-all [] zero same = refl
original_among-all [] (suc n) same = absurd (omega (arith, same))
original_among-all (c ∷ cs) zero same = absurd (omega (arith, same))
original_among-all (c ∷ cs) (suc n) same = ap (λ f. c ∷ f) (original_among-all cs n (omega (arith, same)))

-- each clause of the formula is a working clause
pub original_among-among : (flags : List Bool) (cs : List Clause) → AreAmong cs (original_among flags cs)
original_among-among [] cs k c at = none_some c at
original_among-among (flag ∷ flags) [] k c at = none_some c at
original_among-among (true ∷ flags) (d ∷ cs) zero c at = (zero, at)
original_among-among (true ∷ flags) (d ∷ cs) (suc k) c at = let was = original_among-among flags cs k c at in (suc was.0, was.1)
original_among-among (false ∷ flags) (d ∷ cs) k c at = let was = original_among-among flags cs k c at in (suc was.0, was.1)

-- what the variables of all are below, those of the original ones are
pub AreAllBelow-original : (flags : List Bool) (cs : List Clause) (n : ℕ) → AreAllBelow n cs
    → AreAllBelow n (original_among flags cs)
AreAllBelow-original flags cs n below k c at = let there = original_among-among flags cs k c at in below there.0 c there.1

-- a clause with a flag that is set is one of the formula
pub original_among-has : (flags : List Bool) (cs : List Clause) (k : ℕ) (c : Clause) → slice_index_or flags k false ≡ true
    → slice_get cs k ≡ Some c → IsAmong (original_among flags cs) c
original_among-has [] cs k c flagged at = absurd (false≢true flagged)
original_among-has (flag ∷ flags) [] k c flagged at = none_some c at
original_among-has (true ∷ flags) (d ∷ cs) zero c flagged at = (zero, at)
original_among-has (false ∷ flags) (d ∷ cs) zero c flagged at = absurd (false≢true flagged)
original_among-has (true ∷ flags) (d ∷ cs) (suc k) c flagged at =
    let there = original_among-has flags cs k c flagged at in (suc there.0, there.1)
original_among-has (false ∷ flags) (d ∷ cs) (suc k) c flagged at = original_among-has flags cs k c flagged at

-- a model of the formula satisfies each clause with a flag that is set
pub satisfies-flagged : (a : Assignment) (flags : List Bool) (cs : List Clause) (k : ℕ) (c : Clause)
    → IsTrue (satisfies a (original_among flags cs)) → slice_index_or flags k false ≡ true → slice_get cs k ≡ Some c
    → IsTrue (satisfies_clause a c)
satisfies-flagged a flags cs k c sat flagged at =
    let there = original_among-has flags cs k c flagged at in
    satisfies-at a (original_among flags cs) there.0 c sat there.1

-- what satisfies each of those clauses is a model of the formula
pub satisfies-original : (a : Assignment) (flags : List Bool) (cs : List Clause)
    → ((k : ℕ) (c : Clause) → slice_index_or flags k false ≡ true → slice_get cs k ≡ Some c → IsTrue (satisfies_clause a c))
    → IsTrue (satisfies a (original_among flags cs))
satisfies-original a [] cs all = refl
satisfies-original a (flag ∷ flags) [] all = refl
satisfies-original a (true ∷ flags) (c ∷ cs) all =
    and_from (satisfies_clause a c) (satisfies a (original_among flags cs)) (all zero c refl refl)
    (satisfies-original a flags cs (λ k d flagged at. all (suc k) d flagged at))
satisfies-original a (false ∷ flags) (c ∷ cs) all = satisfies-original a flags cs (λ k d flagged at. all (suc k) d flagged at)

-- of the first clauses, each one with a flag that is set is satisfied
abbrev pub AreSatisfied : Assignment → List Bool → List Clause → ℕ → Type 0
AreSatisfied a flags cs i =
    (k : ℕ) (c : Clause) → k < i → slice_index_or flags k false ≡ true → slice_get cs k ≡ Some c → IsTrue (satisfies_clause a c)

pub AreSatisfied-derived : (a : Assignment) (flags : List Bool) (cs : List Clause) (i : ℕ) → slice_index_or flags i false ≡ false
    → AreSatisfied a flags cs i → AreSatisfied a flags cs (i + 1)
AreSatisfied-derived a flags cs i derived all k c less flagged at =
    ⊎_elim (λ earlier. all k c earlier flagged at)
    (λ later.
    let same : k ≡ i = omega (arith, less, later) in
    absurd (false≢true (sym derived ∙ ap (λ p. slice_index_or flags p false) (sym same) ∙ flagged)))
    (cases_lt k i)

pub AreSatisfied-next : (a : Assignment) (flags : List Bool) (cs : List Clause) (i : ℕ) (d : Clause) → slice_get cs i ≡ Some d
    → IsTrue (satisfies_clause a d) → AreSatisfied a flags cs i → AreSatisfied a flags cs (i + 1)
AreSatisfied-next a flags cs i d here is all k c less flagged at =
    ⊎_elim (λ earlier. all k c earlier flagged at)
    (λ later.
    let same : k ≡ i = omega (arith, less, later) in
    subst (λ e. IsTrue (satisfies_clause a e)) (same_some d c (sym here ∙ ap (slice_get cs) (sym same) ∙ at)) is)
    (cases_lt k i)

pub AreSatisfied-all : (a : Assignment) (flags : List Bool) (cs : List Clause) (i : ℕ) → length cs ≤ i → AreSatisfied a flags cs i
    → IsTrue (satisfies a (original_among flags cs))
AreSatisfied-all a flags cs i all each =
    satisfies-original a flags cs (λ k c flagged at. let inside = slice_get_within cs k c at in each k c (omega (arith, inside, all)) flagged at)

-- a clause of the formula that is not satisfied
pub unsatisfied_original : (a : Assignment) (flags : List Bool) (cs : List Clause) (k : ℕ) (c : Clause)
    → slice_index_or flags k false ≡ true → slice_get cs k ≡ Some c → satisfies_clause a c ≡ false
    → satisfies a (original_among flags cs) ≡ false
unsatisfied_original a flags cs k c flagged at fails =
    ⊎_elim (λ sat. absurd (false≢true (sym fails ∙ satisfies-flagged a flags cs k c sat flagged at))) (λ not_sat. not_sat)
    (cases_Bool (satisfies a (original_among flags cs)))

-- the formula and the working clauses have the same models
pub SaysSame-working : (flags : List Bool) (cs : List Clause)
    → ((k : ℕ) (c : Clause) → slice_get cs k ≡ Some c → Implies (original_among flags cs) c) → SaysSame cs (original_among flags cs)
SaysSame-working flags cs implied a = (
  (λ sat. satisfies-each a cs (λ k c at. (implied k c at).follows a sat)),
  (λ sat. satisfies-original a flags cs (λ k c flagged at. satisfies-at a cs k c sat at)),
)

-- another clause than those of the formula has changed
pub original_among-but : (flags : List Bool) (cs ds : List Clause) (place : ℕ) → length ds ≡ length cs
    → slice_index_or flags place false ≡ false → KeepsBut place cs ds → original_among flags ds ≡ original_among flags cs
original_among-but flags cs ds place len derived keeps = same flags cs ds len (λ k flagged. keeps k (λ is. false≢true (sym derived ∙ ap (λ p. slice_index_or flags p false) (sym is) ∙ flagged)))
  where
    same : (flags : List Bool) (cs ds : List Clause) → length ds ≡ length cs
        → ((k : ℕ) → slice_index_or flags k false ≡ true → slice_get ds k ≡ slice_get cs k)
        → original_among flags ds ≡ original_among flags cs
    same [] cs ds len each = refl
    same (flag ∷ flags) [] [] len each = refl
    same (flag ∷ flags) (c ∷ cs) [] len each = absurd (omega (arith, len))
    same (flag ∷ flags) [] (d ∷ ds) len each = absurd (omega (arith, len))
    same (true ∷ flags) (c ∷ cs) (d ∷ ds) len each =
        ap (λ e. e ∷ original_among flags ds) (same_some d c (each zero refl))
        ∙ ap (λ f. c ∷ f) (same flags cs ds (omega (arith, len)) (λ k flagged. each (suc k) flagged))
    same (false ∷ flags) (c ∷ cs) (d ∷ ds) len each = same flags cs ds (omega (arith, len)) (λ k flagged. each (suc k) flagged)

-- clauses go, but none of the formula
pub original_among-retained : (stays flags : List Bool) (cs : List Clause) → OriginalStay flags stays
    → original_among (retained stays flags) (retained stays cs) ≡ original_among flags cs
original_among-retained [] flags cs all = refl
original_among-retained (true ∷ stays) [] cs all = refl
original_among-retained (false ∷ stays) [] cs all = refl
original_among-retained (true ∷ stays) (flag ∷ flags) [] all = refl
original_among-retained (false ∷ stays) (flag ∷ flags) [] all = no_clauses (retained stays flags)
  where
    no_clauses : (flags : List Bool) → original_among flags [] ≡ []
    no_clauses [] = refl
    no_clauses (flag ∷ flags) = refl
original_among-retained (true ∷ stays) (true ∷ flags) (c ∷ cs) all =
    ap (λ f. c ∷ f) (original_among-retained stays flags cs (λ k flagged. all (suc k) flagged))
original_among-retained (true ∷ stays) (false ∷ flags) (c ∷ cs) all =
    original_among-retained stays flags cs (λ k flagged. all (suc k) flagged)
original_among-retained (false ∷ stays) (true ∷ flags) (c ∷ cs) all = absurd (false≢true (all zero refl))
original_among-retained (false ∷ stays) (false ∷ flags) (c ∷ cs) all =
    original_among-retained stays flags cs (λ k flagged. all (suc k) flagged)

-- as many flags as clauses stay
pub length-retained : (stays flags : List Bool) (cs : List Clause) → length flags ≡ length cs
    → length (retained stays flags) ≡ length (retained stays cs)
length-retained [] flags cs same = same
length-retained (stay ∷ stays) [] [] same = refl
length-retained (stay ∷ stays) [] (c ∷ cs) same = absurd (omega (arith, same))
length-retained (stay ∷ stays) (flag ∷ flags) [] same = absurd (omega (arith, same))
length-retained (true ∷ stays) (flag ∷ flags) (c ∷ cs) same = ap suc (length-retained stays flags cs (omega (arith, same)))
length-retained (false ∷ stays) (flag ∷ flags) (c ∷ cs) same = length-retained stays flags cs (omega (arith, same))
