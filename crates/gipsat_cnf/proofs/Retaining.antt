-- What is left of a list whose items go by flags.
use Rattle.std.proofs.Common.{◌≡◌, ℕ, ◌+◌, List, [], ◌∷◌, ◌++◌, take, Bool, true, false, Some, suc, zero, refl, sym, ap, ◌∙◌}
use Rattle.std.specs.Prelude.{slice_get, slice_index_or}
use Rattle.std.proofs.Math.Numerals.{add-one}
use Rattle.std.proofs.lemmas.Bool.{false≢true}
use Rattle.gipsat_cnf.specs.Prelude.{AreAmong, Clause, retained}
use Rattle.gipsat_cnf.proofs.Places.{none_some, same_some}

pub retained-nil : {A : Type 0} (flags : List Bool) → retained {A = A} flags [] ≡ []
retained-nil [] = refl
retained-nil (stays ∷ flags) = refl

take_next : {A : Type 0} (xs : List A) (i : ℕ) (x : A) → slice_get xs i ≡ Some x → take (suc i) xs ≡ take i xs ++ x ∷ []
take_next [] i x at = none_some x at
take_next (y ∷ xs) zero x at = ap (λ z. z ∷ []) (same_some y x at)
take_next (y ∷ xs) (suc i) x at = ap (λ zs. y ∷ zs) (take_next xs i x at)

-- the next item stays
stays_next : {A : Type 0} (flags : List Bool) (xs : List A) (i : ℕ) (x : A) → slice_get xs i ≡ Some x
    → slice_index_or flags i true ≡ true → retained flags (take (suc i) xs) ≡ retained flags (take i xs) ++ x ∷ []
stays_next [] xs i x at stays = take_next xs i x at
stays_next (flag ∷ flags) [] i x at stays = none_some x at
stays_next (true ∷ flags) (y ∷ xs) zero x at stays =
    ap (λ zs. y ∷ zs) (retained-nil flags) ∙ ap (λ z. z ∷ []) (same_some y x at)
stays_next (false ∷ flags) (y ∷ xs) zero x at stays = absurd (false≢true stays)
stays_next (true ∷ flags) (y ∷ xs) (suc i) x at stays = ap (λ zs. y ∷ zs) (stays_next flags xs i x at stays)
stays_next (false ∷ flags) (y ∷ xs) (suc i) x at stays = stays_next flags xs i x at stays

pub retained-stays : {A : Type 0} (flags : List Bool) (xs : List A) (i : ℕ) (x : A) → slice_get xs i ≡ Some x
    → slice_index_or flags i true ≡ true → retained flags (take (i + 1) xs) ≡ retained flags (take i xs) ++ x ∷ []
retained-stays flags xs i x at stays = ap (λ n. retained flags (take n xs)) (add-one i) ∙ stays_next flags xs i x at stays

-- the next item goes
goes_next : {A : Type 0} (flags : List Bool) (xs : List A) (i : ℕ) → slice_index_or flags i true ≡ false
    → retained flags (take (suc i) xs) ≡ retained flags (take i xs)
goes_next [] xs i goes = absurd (false≢true (sym goes))
goes_next (flag ∷ flags) [] zero goes = refl
goes_next (flag ∷ flags) [] (suc i) goes = refl
goes_next (true ∷ flags) (y ∷ xs) zero goes = absurd (false≢true (sym goes))
goes_next (false ∷ flags) (y ∷ xs) zero goes = retained-nil flags
goes_next (true ∷ flags) (y ∷ xs) (suc i) goes = ap (λ zs. y ∷ zs) (goes_next flags xs i goes)
goes_next (false ∷ flags) (y ∷ xs) (suc i) goes = goes_next flags xs i goes

pub retained-goes : {A : Type 0} (flags : List Bool) (xs : List A) (i : ℕ) → slice_index_or flags i true ≡ false
    → retained flags (take (i + 1) xs) ≡ retained flags (take i xs)
retained-goes flags xs i goes = ap (λ n. retained flags (take n xs)) (add-one i) ∙ goes_next flags xs i goes

-- what stays was there before
pub retained-among : (flags : List Bool) (cs : List Clause) → AreAmong cs (retained flags cs)
retained-among [] cs k c at = (k, at)
retained-among (flag ∷ flags) [] k c at = none_some c at
retained-among (true ∷ flags) (d ∷ cs) zero c at = (zero, at)
retained-among (true ∷ flags) (d ∷ cs) (suc k) c at = let was = retained-among flags cs k c at in (suc was.0, was.1)
retained-among (false ∷ flags) (d ∷ cs) k c at = let was = retained-among flags cs k c at in (suc was.0, was.1)
