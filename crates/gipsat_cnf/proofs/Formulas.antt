-- Formulas and those that satisfy them: clause by clause, and where there are more clauses.
use Rattle.std.proofs.Common.{◌≡◌, ℕ, ◌≤◌, arith, List, [], ◌∷◌, ◌++◌, true, IsTrue, suc, zero, refl, sym, subst, ◌∙◌, Bool}
use Rattle.std.specs.Prelude.{slice_get, Some}
use Rattle.std.specs.List.{list_all}
use Rattle.std.proofs.lemmas.Bool.{and_from, and_parts}
use Rattle.std.proofs.lemmas.List.Folds.{list_all-append}
use Rattle.gipsat_cnf.specs.Prelude.{AreAllBelow, AreAmong, Assignment, Clause, Formula, IsSatisfiable, satisfies, satisfies_clause}
use Rattle.gipsat_cnf.proofs.Places.{each_push, none_some, same_some}

pub all-at : {A : Type 0} (p : A → Bool) (xs : List A) (k : ℕ) (x : A) → list_all p xs ≡ true → slice_get xs k ≡ Some x → p x ≡ true
all-at p [] k x all at = none_some x at
all-at p (y ∷ xs) zero x all at = subst (λ z. p z ≡ true) (same_some y x at) (and_parts (p y) (list_all p xs) all).0
all-at p (y ∷ xs) (suc k) x all at = all-at p xs k x (and_parts (p y) (list_all p xs) all).1 at

pub all-each : {A : Type 0} (p : A → Bool) (xs : List A) → ((k : ℕ) (x : A) → slice_get xs k ≡ Some x → p x ≡ true) → list_all p xs ≡ true
all-each p [] each = refl
all-each p (x ∷ xs) each = and_from (p x) (list_all p xs) (each zero x refl) (all-each p xs (λ k y at. each (suc k) y at))

-- a model of the formula is one of each of its clauses
pub satisfies-at : (a : Assignment) (f : Formula) (k : ℕ) (c : Clause) → IsTrue (satisfies a f) → slice_get f k ≡ Some c
    → IsTrue (satisfies_clause a c)
satisfies-at a f k c sat at = all-at (satisfies_clause a) f k c sat at

-- what satisfies each of its clauses is a model of the formula
pub satisfies-each : (a : Assignment) (f : Formula) → ((k : ℕ) (c : Clause) → slice_get f k ≡ Some c → IsTrue (satisfies_clause a c))
    → IsTrue (satisfies a f)
satisfies-each a f each = all-each (satisfies_clause a) f each

-- a model of a formula is one of the formula with one more clause that it satisfies
pub satisfies-push : (a : Assignment) (f : Formula) (c : Clause) → IsTrue (satisfies a f) → IsTrue (satisfies_clause a c)
    → IsTrue (satisfies a (f ++ c ∷ []))
satisfies-push a f c sat last =
    satisfies-each a (f ++ c ∷ [])
    (each_push (λ d. IsTrue (satisfies_clause a d)) f c (λ k d at. satisfies-at a f k d sat at) last)

-- a model of a formula is one of any formula of some of its clauses
pub satisfies-among : (a : Assignment) (more f : Formula) → AreAmong more f → IsTrue (satisfies a more) → IsTrue (satisfies a f)
satisfies-among a more f among sat =
    satisfies-each a f (λ k c at. let there = among k c at in satisfies-at a more there.0 c sat there.1)

-- a formula to which clauses are added has no more models
pub satisfies-first : (a : Assignment) (f more : Formula) → IsTrue (satisfies a (f ++ more)) → IsTrue (satisfies a f)
satisfies-first a f more sat =
    (and_parts (satisfies a f) (satisfies a more) (sym (list_all-append (satisfies_clause a) f more) ∙ sat)).0

-- a formula to which clauses are added stays unsatisfiable
pub unsatisfiable-more : (f more : Formula) → ¬ (IsSatisfiable f) → ¬ (IsSatisfiable (f ++ more))
unsatisfiable-more f more none (a, sat) = none (a, satisfies-first a f more sat)

-- where variables are below a number, they are below a greater one
pub AreAllBelow-more : (m n : ℕ) (f : Formula) → m ≤ n → AreAllBelow m f → AreAllBelow n f
AreAllBelow-more m n f more below k c at j l there = let less = below k c at j l there in omega (arith, less, more)
