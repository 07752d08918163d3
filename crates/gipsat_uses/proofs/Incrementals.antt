-- Models of formulas that are made of pairs, and of facts that are added.
use Rattle.std.proofs.Common.{◌≡◌, ℕ, suc, ◌+◌, ◌≤◌, ◌-◌, Bool, true, false, ◌||◌, ◌&&◌, List, [], ◌∷◌, ◌++◌, map, take, drop, Some, IsTrue, arith, refl, sym, ap, subst, ◌∙◌, inl, inr, zero}
use Rattle.std.specs.Prelude.{◌⊎◌, slice_get, Option, None, is_some, IfNone}
use Rattle.std.proofs.lemmas.Bool.{false≢true}
use Rattle.std.proofs.lemmas.List.{append_assoc, map-append}
use Rattle.std.proofs.Math.Seq.{take-add}
use Rattle.gipsat_cnf.specs.Prelude.{Assignment, Clause, Formula, IsSatisfiable, IsSatisfiableUnder, Lit, is_true, makes_true, satisfies, satisfies_clause}
use Rattle.gipsat_cnf.proofs.Encodings.{Adds-clauses}
use Rattle.gipsat_cnf.proofs.Formulas.{satisfies-at, satisfies-each, satisfies-first, unsatisfiable-more}
use Rattle.gipsat_cnf.proofs.Places.{none_some, same_some}
use Rattle.gipsat_uses.specs.Incremental.{Covers, either, units, with_first}

clause-at : (pairs : List (Lit × Lit)) (k : ℕ) (pair : Lit × Lit) → slice_get pairs k ≡ Some pair
    → slice_get (map either pairs) k ≡ Some (either pair)
clause-at [] k pair at = none_some pair at
clause-at (p ∷ pairs) zero pair at = ap (λ q. Some (either q)) (same_some p pair at)
clause-at (p ∷ pairs) (suc k) pair at = clause-at pairs k pair at

pair-at : (pairs : List (Lit × Lit)) (k : ℕ) (c : Clause) → slice_get (map either pairs) k ≡ Some c
    → (pair : Lit × Lit) × (slice_get pairs k ≡ Some pair) × (either pair ≡ c)
pair-at [] k c at = none_some c at
pair-at (p ∷ pairs) zero c at = (p, refl, same_some (either p) c at)
pair-at (p ∷ pairs) (suc k) c at = pair-at pairs k c at

-- a clause of two literals is satisfied where one of them is true
one_of_two : (x y : Bool) → (x || (y || false)) ≡ true → IsTrue x ⊎ IsTrue y
one_of_two true y is = inl refl
one_of_two false true is = inr refl
one_of_two false false is = absurd (false≢true is)

two_from_one : (x y : Bool) → IsTrue x ⊎ IsTrue y → (x || (y || false)) ≡ true
two_from_one true y one = refl
two_from_one false true one = refl
two_from_one false false (inl is) = absurd (false≢true is)
two_from_one false false (inr is) = absurd (false≢true is)

-- a model of the clauses of the pairs makes one of each pair true
pub covers : (a : Assignment) (pairs : List (Lit × Lit)) → IsTrue (satisfies a (map either pairs)) → Covers pairs a
covers a pairs sat k pair at =
    one_of_two (is_true a pair.0) (is_true a pair.1) (satisfies-at a (map either pairs) k (either pair) sat (clause-at pairs k pair at))

-- and what makes one of each pair true is a model
pub covered : (a : Assignment) (pairs : List (Lit × Lit)) → Covers pairs a → IsTrue (satisfies a (map either pairs))
covered a pairs covers =
    satisfies-each a (map either pairs)
    (λ k c at.
    let (pair, there, same) = pair-at pairs k c at in
    subst (λ d. IsTrue (satisfies_clause a d)) same (two_from_one (is_true a pair.0) (is_true a pair.1) (covers k pair there)))

-- the clauses of facts say that they are true
units-say : (a : Assignment) (facts : List Lit) → satisfies a (units facts) ≡ makes_true a facts
units-say a [] = refl
units-say a (l ∷ facts) = by_value (is_true a l) (satisfies a (units facts)) (makes_true a facts) (units-say a facts)
  where
    by_value : (x y z : Bool) → y ≡ z → ((x || false) && y) ≡ (x && z)
    by_value true y z same = same
    by_value false y z same = refl

-- a model of the formula with the facts makes them true
pub facts-true : (a : Assignment) (f g : Formula) (facts : List Lit) → g ≡ f ++ units facts → IsTrue (satisfies a g)
    → IsTrue (makes_true a facts)
facts-true a f g facts same sat = sym (units-say a facts) ∙ ((Adds-clauses (units facts) f g same a).0 sat).1

-- and is one of the formula
pub model-before : (a : Assignment) (f g : Formula) (facts : List Lit) → g ≡ f ++ units facts → IsTrue (satisfies a g)
    → IsTrue (satisfies a f)
model-before a f g facts same sat = satisfies-first a f (units facts) (subst (λ h. IsTrue (satisfies a h)) same sat)

-- where there is none, none of the formula makes the facts true
pub none-with : (f g : Formula) (facts : List Lit) → g ≡ f ++ units facts → ¬ (IsSatisfiable g) → ¬ (IsSatisfiableUnder f facts)
none-with f g facts same none (a, sat, all) = none (a, (Adds-clauses (units facts) f g same a).1 (sat, units-say a facts ∙ all))

-- where nothing satisfies the formula with the first facts, nothing does with more of them
pub none-with_more : (f : Formula) (facts : List Lit) (n k : ℕ) → n ≤ k → ¬ (IsSatisfiable (with_first f facts n))
    → ¬ (IsSatisfiable (with_first f facts k))
none-with_more f facts n k within none =
    subst (λ g. ¬ (IsSatisfiable g)) (sym longer) (unsatisfiable-more (with_first f facts n) (units rest) none)
  where
    rest : List Lit
    rest = take (k - n) (drop n facts)

    longer : with_first f facts k ≡ with_first f facts n ++ units rest
    longer =
        let far : n + (k - n) ≡ k = omega (arith, within) in
        ap (λ j. f ++ units (take j facts)) (sym far) ∙ ap (λ ls. f ++ units ls) (take-add n (k - n) facts)
        ∙ ap (λ g. f ++ g) (map-append (λ (l : Lit). l ∷ []) (take n facts) rest)
        ∙ sym (append_assoc f (units (take n facts)) (units rest))

-- what is said of nothing, where nothing was found
pub none_of : {X P : Type 0} (o : Option X) → is_some o ≡ false → IfNone o P → P
none_of None is p = p
none_of (Some x) is p = absurd (false≢true (sym is))
