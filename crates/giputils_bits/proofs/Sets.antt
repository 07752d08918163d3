-- A list of truth values as the set of its true places: subsets, and what writes and a difference leave of it.
use Rattle.std.proofs.Common.{◌≡◌, ◌↔◌, ℕ, zero, suc, ◌+◌, ◌<◌, Bool, true, false, ◌&&◌, not, List, [], ◌∷◌, length, get_or, set, replicate, cond, refl, arith, sym, ap, ◌∙◌}
use Rattle.std.proofs.lemmas.Bool.{false≢true}
use Rattle.std.proofs.lemmas.List.Sums.{sum_by-set}
use Rattle.giputils_bits.specs.Prelude.{and_of, not_of, true_count}
use Rattle.giputils_bits.proofs.Logic.{length-zip_with, length-not_of, get_or-zip_with_all, get_or-falses}

-- how many places are true after a write, beside what stood there
pub true_count-set : (bs : List Bool) (i : ℕ) (val : Bool) → i < length bs
    → true_count (set bs i val) + cond (get_or bs i false) 1 0 ≡ true_count bs + cond val 1 0
true_count-set bs i val inside = sum_by-set (λ b. cond b 1 0) bs i val false inside

-- the places of one list that are not those of another
pub length-without : (xs ys : List Bool) → length xs ≡ length ys → length (and_of xs (not_of ys)) ≡ length xs
length-without xs ys long = length-zip_with ◌&&◌ xs (not_of ys) (long ∙ sym (length-not_of ys))

pub get_or-without : (xs ys : List Bool) (i : ℕ) → length xs ≡ length ys
    → get_or (and_of xs (not_of ys)) i false ≡ (get_or xs i false && not (get_or ys i false))
get_or-without [] [] i long = refl
get_or-without [] (y ∷ ys) i long = absurd (omega (arith, long))
get_or-without (x ∷ xs) [] i long = absurd (omega (arith, long))
get_or-without (x ∷ xs) (y ∷ ys) zero long = refl
get_or-without (x ∷ xs) (y ∷ ys) (suc i) long = get_or-without xs ys i (omega (arith, long))

-- ---- subsets and disjoint sets
-- a place of both lists is true where the places of both are
get_or-and_of : (xs ys : List Bool) (i : ℕ) → length xs ≡ length ys → get_or (and_of xs ys) i false ≡ (get_or xs i false && get_or ys i false)
get_or-and_of xs ys i long = get_or-zip_with_all ◌&&◌ xs ys i refl long

-- a list is within another exactly where each of its true places is true in the other
pub within : (xs ys : List Bool) → length xs ≡ length ys
    → (and_of xs ys ≡ xs) ↔ ((i : ℕ) → get_or xs i false ≡ true → get_or ys i false ≡ true)
within xs ys long = (
  λ same i holds. second (get_or xs i false) (get_or ys i false) (sym (get_or-and_of xs ys i long) ∙ ap (λ zs. get_or zs i false) same ∙ holds),
  all xs ys long,
)
  where
    second : (x y : Bool) → (x && y) ≡ true → y ≡ true
    second true y holds = holds
    second false y holds = absurd (false≢true holds)

    all : (xs ys : List Bool) → length xs ≡ length ys → ((i : ℕ) → get_or xs i false ≡ true → get_or ys i false ≡ true) → and_of xs ys ≡ xs
    all [] ys long holds = refl
    all (x ∷ xs) [] long holds = absurd (omega (arith, long))
    all (true ∷ xs) (y ∷ ys) long holds = rw (holds 0 refl) (ap (λ zs. true ∷ zs) (all xs ys (omega (arith, long)) (λ i. holds (suc i))))
    all (false ∷ xs) (y ∷ ys) long holds = ap (λ zs. false ∷ zs) (all xs ys (omega (arith, long)) (λ i. holds (suc i)))

-- two lists are disjoint exactly where each true place of the first is false in the second
pub disjoint : (xs ys : List Bool) → length xs ≡ length ys
    → (and_of xs ys ≡ replicate (length xs) false) ↔ ((i : ℕ) → get_or xs i false ≡ true → get_or ys i false ≡ false)
disjoint xs ys long = (
  λ none i holds. second (get_or xs i false) (get_or ys i false) holds
      (sym (get_or-and_of xs ys i long) ∙ ap (λ zs. get_or zs i false) none ∙ get_or-falses (length xs) i),
  apart xs ys long,
)
  where
    second : (x y : Bool) → x ≡ true → (x && y) ≡ false → y ≡ false
    second true y holds none = none
    second false y holds none = absurd (false≢true holds)

    apart : (xs ys : List Bool) → length xs ≡ length ys → ((i : ℕ) → get_or xs i false ≡ true → get_or ys i false ≡ false)
        → and_of xs ys ≡ replicate (length xs) false
    apart [] ys long holds = refl
    apart (x ∷ xs) [] long holds = absurd (omega (arith, long))
    apart (true ∷ xs) (y ∷ ys) long holds = rw (holds 0 refl) (ap (λ zs. false ∷ zs) (apart xs ys (omega (arith, long)) (λ i. holds (suc i))))
    apart (false ∷ xs) (y ∷ ys) long holds = ap (λ zs. false ∷ zs) (apart xs ys (omega (arith, long)) (λ i. holds (suc i)))
