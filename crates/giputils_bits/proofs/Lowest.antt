-- A number without its lowest digit that is 1.
use Rattle.std.proofs.Common.{◌≡◌, ◌≢◌, ℕ, zero, suc, ◌-◌, ◌/◌, ◌%◌, ◌^◌, ◌<◌, Bool, true, false, ◌&&◌, refl, sym, ap, ◌∙◌, arith, inl, inr, eqb, w64}
use Rattle.std.specs.Prelude.{bit_and}
use Rattle.std.specs.Int.{bit_at, trailing_zeros}
use Rattle.std.proofs.Math.Bool.{and-false}
use Rattle.std.proofs.lemmas.Bool.{cases_lt}
use Rattle.std.proofs.lemmas.Nat.Bits.{bit_at_lowest, bit_at-suc, bit_at-trailing_zeros}
use Rattle.giputils_bits.specs.Prelude.{SetsDigit, has_digit}
use Rattle.giputils_bits.proofs.Digits.{has_digit-and}

-- an odd number less one
above_odd : (n j : ℕ) → n % 2 ≡ 1 → 0 < j → bit_at (n - 1) j ≡ bit_at n j
above_odd n zero odd some = absurd (omega arith)
above_odd n (suc j) odd some =
    let half : (n - 1) / 2 ≡ n / 2 = omega (arith, odd) in
    bit_at-suc (n - 1) j ∙ ap (λ m. bit_at m j) half ∙ sym (bit_at-suc n j)

-- an even number less one
above_even : (n t j : ℕ) → n % 2 ≡ 0 → ((k : ℕ) → t < k → bit_at (n / 2 - 1) k ≡ bit_at (n / 2) k) → suc t < j → bit_at (n - 1) j ≡ bit_at n j
above_even n t zero even same past = absurd (omega arith)
above_even n t (suc j) even same past =
    let half : (n - 1) / 2 ≡ n / 2 - 1 = omega (arith, even) in
    bit_at-suc (n - 1) j ∙ ap (λ m. bit_at m j) half ∙ same j (omega arith) ∙ sym (bit_at-suc n j)

-- less one, its lowest 1 is 0, and what is above stays
less_one : (t n : ℕ) → bit_at n t ≡ 1 → ((i : ℕ) → i < t → bit_at n i ≡ 0) → (bit_at (n - 1) t ≡ 0) × ((j : ℕ) → t < j → bit_at (n - 1) j ≡ bit_at n j)
less_one zero n one none =
    let odd : n % 2 ≡ 1 = sym (bit_at_lowest n) ∙ one in
    (bit_at_lowest (n - 1) ∙ omega (arith, odd), λ j l. above_odd n j odd l)
less_one (suc t) n one none =
    let even : n % 2 ≡ 0 = sym (bit_at_lowest n) ∙ none 0 (omega arith) in
    let half : (n - 1) / 2 ≡ n / 2 - 1 = omega (arith, even) in
    let rest = less_one t (n / 2) (sym (bit_at-suc n t) ∙ one) (λ i l. sym (bit_at-suc n i) ∙ none (suc i) (omega arith)) in
    (bit_at-suc (n - 1) t ∙ ap (λ m. bit_at m t) half ∙ rest.0, λ j l. above_even n t j even rest.1 l)

and_same : (b : Bool) → (b && b) ≡ b
and_same true = refl
and_same false = refl

-- a word and the word less one: without its lowest digit
pub SetsDigit-lowest : (w : ℕ) → w ≢ 0 → w < 2 ^ 64 → SetsDigit w (bit_and w (w - 1)) (trailing_zeros w64 w) false
SetsDigit-lowest w some fits =
    let lowest = bit_at-trailing_zeros w64 w (omega (arith, some)) fits in
    let less = less_one (trailing_zeros w64 w) w lowest.1 lowest.2 in
    record {
      at = has_digit-and w (w - 1) (trailing_zeros w64 w) ∙ ap (λ n. has_digit w (trailing_zeros w64 w) && eqb n 1) less.0 ∙ and-false _;
      others = λ j small other. has_digit-and w (w - 1) j ∙ elim (cases_lt j (trailing_zeros w64 w)) [
        | inl l ↦ rw (lowest.2 j l) refl
        | inr l ↦ ap (λ n. has_digit w j && eqb n 1) (less.1 j (omega (arith, other))) ∙ and_same (has_digit w j)
      ];
    }
