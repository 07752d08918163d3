-- Tests over all items of a list: as a loop finds them out, weaker ones, and in another order.
use Rattle.std.proofs.Common.{◌≡◌, ℕ, ◌<◌, ◌≤◌, List, [], ◌∷◌, length, Some, Bool, true, false, not, ◌&&◌, ◌||◌, IsTrue, suc, zero, refl, sym, ap, ◌∙◌, arith, ⊎_elim}
use Rattle.std.specs.Prelude.{slice_get}
use Rattle.std.specs.List.{list_all, list_any}
use Rattle.std.specs.List.Sorted.{IsPermutation}
use Rattle.std.proofs.lemmas.Option.{slice_get_within}
use Rattle.std.proofs.lemmas.Bool.{false≢true, and_from, and_parts, cases_Bool, or_cases}
use Rattle.std.proofs.lemmas.List.Sorted.{list_any-IsPermutation}
use Rattle.gipsat_cnf.proofs.Formulas.{all-at, all-each}

pub all_pass : {A : Type 0} (p : A → Bool) (xs : List A) (i : ℕ) → length xs ≤ i
    → ((k : ℕ) (x : A) → k < i → slice_get xs k ≡ Some x → p x ≡ true) → true ≡ list_all p xs
all_pass p xs i all each =
    sym (all-each p xs (λ k x at. let inside : k < length xs = slice_get_within xs k x at in each k x (omega (arith, inside, all)) at))

pub one_fails : {A : Type 0} (p : A → Bool) (xs : List A) (i : ℕ) (x : A) → slice_get xs i ≡ Some x → p x ≡ false
    → false ≡ list_all p xs
one_fails p xs i x at fails =
    ⊎_elim (λ all. absurd (false≢true (sym fails ∙ all-at p xs i x all at))) (λ not_all. sym not_all) (cases_Bool (list_all p xs))

none_passes : {A : Type 0} (p : A → Bool) (xs : List A) → ((k : ℕ) (x : A) → slice_get xs k ≡ Some x → p x ≡ false) → list_any p xs ≡ false
none_passes p [] each = refl
none_passes p (x ∷ xs) each =
    ⊎_elim
    (λ some.
    ⊎_elim (λ here. absurd (false≢true (sym (each zero x refl) ∙ here)))
    (λ later. absurd (false≢true (sym (none_passes p xs (λ k y at. each (suc k) y at)) ∙ later)))
    (or_cases (p x) (list_any p xs) some))
    (λ none. none) (cases_Bool (list_any p (x ∷ xs)))

pub all_fail : {A : Type 0} (p : A → Bool) (xs : List A) (i : ℕ) → length xs ≤ i
    → ((k : ℕ) (x : A) → k < i → slice_get xs k ≡ Some x → p x ≡ false) → false ≡ list_any p xs
all_fail p xs i all each =
    sym (none_passes p xs (λ k x at. let inside : k < length xs = slice_get_within xs k x at in each k x (omega (arith, inside, all)) at))

-- what passes a test passes a weaker one
pub all_weaker : {A : Type 0} (p q : A → Bool) (xs : List A) → ((x : A) → IsTrue (p x) → IsTrue (q x)) → IsTrue (list_all p xs)
    → IsTrue (list_all q xs)
all_weaker p q [] weaker all = refl
all_weaker p q (x ∷ xs) weaker all =
    let (here, rest) = and_parts (p x) (list_all p xs) all in
    and_from (q x) (list_all q xs) (weaker x here) (all_weaker p q xs weaker rest)

-- all items pass if none fails
pub all_unless_any : {A : Type 0} (p : A → Bool) (xs : List A) → list_all p xs ≡ not (list_any (λ x. not (p x)) xs)
all_unless_any p [] = refl
all_unless_any p (x ∷ xs) = with_first (p x) (list_all p xs) (list_any (λ y. not (p y)) xs) (all_unless_any p xs)
  where
    with_first : (b u v : Bool) → u ≡ not v → (b && u) ≡ not (not b || v)
    with_first true u v same = same
    with_first false u v same = refl

pub list_all-permuted : {A : Type 0} (p : A → Bool) (xs ys : List A) → IsPermutation xs ys → list_all p xs ≡ list_all p ys
list_all-permuted p xs ys same =
    all_unless_any p xs ∙ ap not (list_any-IsPermutation (λ x. not (p x)) xs ys same) ∙ sym (all_unless_any p ys)
