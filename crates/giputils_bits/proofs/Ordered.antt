-- Lists of bits in order, told by the words that keep them.
use Rattle.std.proofs.Common.{◌≡◌, ◌≢◌, ℕ, zero, suc, ◌+◌, ◌*◌, ◌/◌, ◌%◌, ◌^◌, ◌<◌, Bool, true, false, not, List, [], ◌∷◌, length, get_or, refl, sym, ap, ◌∙◌, arith, inl, inr, w64}
use Rattle.std.specs.Prelude.{bit_xor, min}
use Rattle.std.proofs.Common.{Ordering, Less, Equal, Greater}
use Rattle.std.specs.Int.{trailing_zeros}
use Rattle.std.specs.Ordering.{bool_cmp, nat_cmp, MatchOrdering}
use Rattle.std.specs.Cmp.{ranks}
use Rattle.std.specs.Cmp.Lexicographic.{slice_cmp}
use Rattle.std.proofs.lemmas.Bool.{cases_lt}
use Rattle.giputils_bits.specs.Prelude.{AlikeBelow, IsDecided, IsPacked, bits_of, has_digit, place, xor}
use Rattle.giputils_bits.proofs.Digits.{has_digit-xor}
use Rattle.giputils_bits.proofs.OnesLeft.{lowest_one}
use Rattle.giputils_bits.proofs.Places.{place_is, kept-length, get_or-bits_of_all}

-- ---- lists
-- the first place that differs is true in the first
pub first_is_greater : (xs ys : List Bool) (p : ℕ) → ((i : ℕ) → i < p → get_or xs i false ≡ get_or ys i false) → get_or xs p false ≡ true → get_or ys p false ≡ false
    → slice_cmp bool_cmp xs ys ≡ Greater
first_is_greater [] ys p same x y = absurd (cc)
first_is_greater (x ∷ xs) [] p same at_x at_y = refl
first_is_greater (true ∷ xs) (false ∷ ys) p same at_x at_y = refl
first_is_greater (true ∷ xs) (true ∷ ys) zero same at_x at_y = absurd (cc)
first_is_greater (false ∷ xs) (y ∷ ys) zero same at_x at_y = absurd (cc)
first_is_greater (true ∷ xs) (true ∷ ys) (suc p) same at_x at_y = first_is_greater xs ys p (λ i l. same (suc i) (omega arith)) at_x at_y
first_is_greater (false ∷ xs) (false ∷ ys) (suc p) same at_x at_y = first_is_greater xs ys p (λ i l. same (suc i) (omega arith)) at_x at_y
first_is_greater (false ∷ xs) (true ∷ ys) (suc p) same at_x at_y = absurd (let never = same 0 (omega arith) in cc)

pub first_is_less : (xs ys : List Bool) (p : ℕ) → ((i : ℕ) → i < p → get_or xs i false ≡ get_or ys i false) → get_or xs p false ≡ false → get_or ys p false ≡ true
    → slice_cmp bool_cmp xs ys ≡ Less
first_is_less xs [] p same x y = absurd (cc)
first_is_less [] (y ∷ ys) p same at_x at_y = refl
first_is_less (false ∷ xs) (true ∷ ys) p same at_x at_y = refl
first_is_less (true ∷ xs) (y ∷ ys) zero same at_x at_y = absurd (cc)
first_is_less (false ∷ xs) (false ∷ ys) zero same at_x at_y = absurd (cc)
first_is_less (true ∷ xs) (true ∷ ys) (suc p) same at_x at_y = first_is_less xs ys p (λ i l. same (suc i) (omega arith)) at_x at_y
first_is_less (false ∷ xs) (false ∷ ys) (suc p) same at_x at_y = first_is_less xs ys p (λ i l. same (suc i) (omega arith)) at_x at_y
first_is_less (true ∷ xs) (false ∷ ys) (suc p) same at_x at_y = absurd (let never = same 0 (omega arith) in cc)

-- an answer on two lengths holds of lengths that are each one more
one_less : (r : Ordering) (m n : ℕ) → MatchOrdering r (suc m < suc n) (suc m ≡ suc n) (suc n < suc m) → MatchOrdering r (m < n) (m ≡ n) (n < m)
one_less Less m n h = omega (arith, h)
one_less Equal m n h = omega (arith, h)
one_less Greater m n h = omega (arith, h)

-- no place of both differs
pub lengths_decide : (xs ys : List Bool) (r : Ordering) → ((i : ℕ) → i < length xs → i < length ys → get_or xs i false ≡ get_or ys i false)
    → MatchOrdering r (length xs < length ys) (length xs ≡ length ys) (length ys < length xs) → slice_cmp bool_cmp xs ys ≡ r
lengths_decide [] [] Equal same h = refl
lengths_decide [] [] Less same h = absurd (omega (arith, h))
lengths_decide [] [] Greater same h = absurd (omega (arith, h))
lengths_decide [] (y ∷ ys) Less same h = refl
lengths_decide [] (y ∷ ys) Equal same h = absurd (omega (arith, h))
lengths_decide [] (y ∷ ys) Greater same h = absurd (omega (arith, h))
lengths_decide (x ∷ xs) [] Greater same h = refl
lengths_decide (x ∷ xs) [] Less same h = absurd (omega (arith, h))
lengths_decide (x ∷ xs) [] Equal same h = absurd (omega (arith, h))
lengths_decide (true ∷ xs) (true ∷ ys) r same h = lengths_decide xs ys r (λ i l m. same (suc i) (omega arith) (omega arith)) (one_less r (length xs) (length ys) h)
lengths_decide (false ∷ xs) (false ∷ ys) r same h = lengths_decide xs ys r (λ i l m. same (suc i) (omega arith) (omega arith)) (one_less r (length xs) (length ys) h)
lengths_decide (true ∷ xs) (false ∷ ys) r same h = absurd (let never = same 0 (omega arith) (omega arith) in cc)
lengths_decide (false ∷ xs) (true ∷ ys) r same h = absurd (let never = same 0 (omega arith) (omega arith) in cc)

-- ---- words
xor-none : (a b : Bool) → xor a b ≡ false → a ≡ b
xor-none true true e = refl
xor-none true false e = absurd (cc)
xor-none false b e = sym e

xor-some : (a b : Bool) → xor a b ≡ true → b ≡ not a
xor-some true true e = absurd (cc)
xor-some true false e = refl
xor-some false b e = e

-- words that do not differ
pub AlikeBelow-more : (ws vs : List ℕ) (k : ℕ) → AlikeBelow ws vs (64 * k) → get_or ws k 0 ≡ get_or vs k 0 → AlikeBelow ws vs (64 * (k + 1))
AlikeBelow-more ws vs k alike same i below = elim (cases_lt i (64 * k)) [
  | inl l ↦ alike i l
  | inr m ↦
      let word : i / 64 ≡ k = omega arith in
      rw (place_is ws i, place_is vs i, word, same) refl
]

-- words that do: the lowest digit that differs is the first place
pub IsDecided-word : (ws vs : List ℕ) (k : ℕ) → AlikeBelow ws vs (64 * k) → bit_xor (get_or ws k 0) (get_or vs k 0) ≢ 0 → bit_xor (get_or ws k 0) (get_or vs k 0) < 2 ^ 64
    → IsDecided ws vs (has_digit (get_or ws k 0) (trailing_zeros w64 (bit_xor (get_or ws k 0) (get_or vs k 0))))
IsDecided-word ws vs k alike some fits =
    let w : ℕ = get_or ws k 0 in
    let v : ℕ = get_or vs k 0 in
    let t : ℕ = trailing_zeros w64 (bit_xor w v) in
    let low = lowest_one (bit_xor w v) some fits in
    let word : (64 * k + t) / 64 ≡ k = omega (arith, low.0) in
    let digit : (64 * k + t) % 64 ≡ t = omega (arith, low.0) in (
      64 * k + t,
      λ i below. elim (cases_lt i (64 * k)) [
        | inl l ↦ alike i l
        | inr m ↦
            let here : i / 64 ≡ k = omega (arith, low.0) in
            let before : xor (has_digit w (i % 64)) (has_digit v (i % 64)) ≡ false = sym (has_digit-xor w v (i % 64)) ∙ low.2 (i % 64) (omega (arith, low.0)) in
            rw (place_is ws i, place_is vs i, here) (xor-none (has_digit w (i % 64)) (has_digit v (i % 64)) before)
      ],
      rw (place_is ws (64 * k + t), word, digit) refl,
      rw (place_is vs (64 * k + t), word, digit) (xor-some (has_digit w t) (has_digit v t) (sym (has_digit-xor w v t) ∙ low.1)),
    )

-- ---- lists that are kept in words
module _ (m n : ℕ) (ws vs : List ℕ) (xs ys : List Bool) (v : bits_of m ws ≡ xs) (w : bits_of n vs ≡ ys) (p : IsPacked m ws) (q : IsPacked n vs) where
  at_first : (i : ℕ) → get_or xs i false ≡ place ws i
  at_first i = ap (λ bs. get_or bs i false) (sym v) ∙ get_or-bits_of_all m ws p.padding i

  at_second : (i : ℕ) → get_or ys i false ≡ place vs i
  at_second i = ap (λ bs. get_or bs i false) (sym w) ∙ get_or-bits_of_all n vs q.padding i

  alike_before : (k : ℕ) → AlikeBelow ws vs k → (i : ℕ) → i < k → get_or xs i false ≡ get_or ys i false
  alike_before k alike i l = at_first i ∙ alike i l ∙ sym (at_second i)

  pub decided_greater : (bit : Bool) → bit ≡ true → IsDecided ws vs bit → Greater ≡ slice_cmp bool_cmp xs ys
  decided_greater bit is d =
      sym (first_is_greater xs ys d.0 (alike_before d.0 d.1) (at_first d.0 ∙ d.2 ∙ is) (at_second d.0 ∙ d.3 ∙ ap not is))

  pub decided_less : (bit : Bool) → bit ≡ false → IsDecided ws vs bit → Less ≡ slice_cmp bool_cmp xs ys
  decided_less bit is d =
      sym (first_is_less xs ys d.0 (alike_before d.0 d.1) (at_first d.0 ∙ d.2 ∙ is) (at_second d.0 ∙ d.3 ∙ ap not is))

  pub not_decided : AlikeBelow ws vs (64 * min (length ws) (length vs)) → nat_cmp (length xs) (length ys) ≡ slice_cmp bool_cmp xs ys
  not_decided alike =
      sym (lengths_decide xs ys (nat_cmp (length xs) (length ys))
      (λ i l r. alike_before (64 * min (length ws) (length vs)) alike i (omega (arith, p.count, q.count, kept-length m ws xs v, kept-length n vs ys w)))
      (ranks (length xs) (length ys)))
