-- The least false place of words from a place on.
use Rattle.std.proofs.Common.{◌≡◌, ◌≢◌, ℕ, ◌+◌, ◌-◌, ◌*◌, ◌/◌, ◌%◌, ◌^◌, ◌<◌, ◌≤◌, Bool, true, false, not, ◌&&◌, List, length, get_or, refl, sym, ap, ◌∙◌, arith, inl, inr, w64}
use Rattle.std.specs.Prelude.{bit_and}
use Rattle.std.specs.Int.{bit_not, trailing_zeros}
use Rattle.std.proofs.Math.Bool.{and-true, and-false}
use Rattle.std.proofs.lemmas.Bool.{cases_lt, false≢true}
use Rattle.std.proofs.lemmas.List.{get_or_past}
use Rattle.giputils_bits.specs.Prelude.{HasNoneFrom, IsNextOne, bits_of, has_digit, not_of, place}
use Rattle.giputils_bits.proofs.Digits.{has_digit-zero, has_digit-ones, has_digit-and, has_digit-not, has_digit-shl_low, has_digit-shl_high}
use Rattle.giputils_bits.proofs.Logic.{length-not_of, get_or-not_of}
use Rattle.giputils_bits.proofs.OnesLeft.{lowest_one}
use Rattle.giputils_bits.proofs.Places.{place_is, length-bits_of, get_or-bits_of}

-- word k turned round
place-turned : (ws : List ℕ) (k d : ℕ) → get_or ws k 0 < 2 ^ 64 → d < 64 → has_digit (bit_not w64 (get_or ws k 0)) d ≡ not (place ws (64 * k + d))
place-turned ws k d fits within =
    let word : (64 * k + d) / 64 ≡ k = omega arith in
    let digit : (64 * k + d) % 64 ≡ d = omega arith in
    has_digit-not (get_or ws k 0) d fits within ∙ ap not (sym (rw (place_is ws (64 * k + d), word, digit) refl))

true_from_turned : (b : Bool) → not b ≡ false → b ≡ true
true_from_turned true e = refl
true_from_turned false e = absurd (false≢true (sym e))

-- from `start` on each place before word k is true, and `word` has the places of word k from there on, turned round
pub record IsTrueBefore (ws : List ℕ) (start k word : ℕ) : Type 0 where
  pub before : (j : ℕ) → start ≤ j → j < 64 * k → place ws j ≡ true
  pub low : (d : ℕ) → d < 64 → 64 * k + d < start → has_digit word d ≡ false
  pub high : (d : ℕ) → d < 64 → start ≤ 64 * k + d → has_digit word d ≡ not (place ws (64 * k + d))

pub IsTrueBefore-first : (ws : List ℕ) (start : ℕ) → get_or ws (start / 64) 0 < 2 ^ 64
    → IsTrueBefore ws start (start / 64) (bit_and (bit_not w64 (get_or ws (start / 64) 0)) ((2 ^ 64 - 1) * 2 ^ (start % 64) % 2 ^ 64))
IsTrueBefore-first ws start fits =
    let turned : ℕ = bit_not w64 (get_or ws (start / 64) 0) in
    record {
      before = λ j h l. absurd (omega arith);
      low = λ d within l. has_digit-and turned _ d
          ∙ ap (λ b. has_digit turned d && b) (has_digit-shl_low (2 ^ 64 - 1) (start % 64) d (omega arith) within) ∙ and-false _;
      high = λ d within h. has_digit-and turned _ d
          ∙ ap (λ b. has_digit turned d && b)
          (has_digit-shl_high (2 ^ 64 - 1) (start % 64) d (omega arith) within ∙ has_digit-ones 64 (d - start % 64) (omega arith))
          ∙ and-true _ ∙ place-turned ws (start / 64) d fits within;
    }

-- no place is false before the t lowest digits of the word
before_digit : (ws : List ℕ) (start k word t : ℕ) → IsTrueBefore ws start k word → t ≤ 64 → ((i : ℕ) → i < t → has_digit word i ≡ false)
    → (j : ℕ) → start ≤ j → j < 64 * k + t → place ws j ≡ true
before_digit ws start k word t s within none j h l = elim (cases_lt j (64 * k)) [
  | inl front ↦ s.before j h front
  | inr back ↦
      let at : 64 * k + (j - 64 * k) ≡ j = omega arith in
      let turned : has_digit word (j - 64 * k) ≡ not (place ws j) = rw at at (s.high (j - 64 * k) (omega arith) (omega arith)) in
      true_from_turned (place ws j) (sym turned ∙ none (j - 64 * k) (omega arith))
]

pub IsTrueBefore-next : (ws : List ℕ) (start k : ℕ) → start / 64 ≤ k → get_or ws (k + 1) 0 < 2 ^ 64 → IsTrueBefore ws start k 0
    → IsTrueBefore ws start (k + 1) (bit_not w64 (get_or ws (k + 1) 0))
IsTrueBefore-next ws start k past fits s = record {
  before = λ j h l. before_digit ws start k 0 64 s (omega arith) (λ i below. has_digit-zero i) j h (omega arith);
  low = λ d within l. absurd (omega arith);
  high = λ d within h. place-turned ws (k + 1) d fits within;
}

module _ (ws : List ℕ) (start end : ℕ) where
  turned_at : (j : ℕ) → j < end → get_or (not_of (bits_of end ws)) j false ≡ not (place ws j)
  turned_at j l = get_or-not_of (bits_of end ws) j (omega (arith, length-bits_of end ws)) ∙ ap not (get_or-bits_of end ws j false l)

  -- where each place is true, none is false
  pub none_false : ((j : ℕ) → start ≤ j → j < end → place ws j ≡ true) → HasNoneFrom (not_of (bits_of end ws)) start
  none_false each j h = elim (cases_lt j end) [
    | inl l ↦ turned_at j l ∙ ap not (each j h l)
    | inr m ↦ get_or_past (not_of (bits_of end ws)) j false (omega (arith, length-not_of (bits_of end ws), length-bits_of end ws))
  ]

  -- the words have come to an end
  pub none_in_words : (k : ℕ) → end ≤ 64 * (k + 1) → IsTrueBefore ws start k 0 → HasNoneFrom (not_of (bits_of end ws)) start
  none_in_words k all s = none_false (λ j h l. before_digit ws start k 0 64 s (omega arith) (λ i below. has_digit-zero i) j h (omega arith))

  module _ (k word : ℕ) (some : word ≢ 0) (fits : word < 2 ^ 64) (s : IsTrueBefore ws start k word) where
    -- the first false place is past the end
    pub none_before_end : end ≤ 64 * k + trailing_zeros w64 word → HasNoneFrom (not_of (bits_of end ws)) start
    none_before_end past =
        let lowest = lowest_one word some fits in
        none_false (λ j h l. before_digit ws start k word (trailing_zeros w64 word) s (omega (arith, lowest.0)) lowest.2 j h (omega arith))

    pub next_false : 64 * k + trailing_zeros w64 word < end → IsNextOne (not_of (bits_of end ws)) start (64 * k + trailing_zeros w64 word)
    next_false inside =
        let t : ℕ = trailing_zeros w64 word in
        let lowest = lowest_one word some fits in
        let past : start ≤ 64 * k + t = elim (cases_lt (64 * k + t) start) [
          | inl l ↦ absurd (false≢true (sym (s.low t lowest.0 l) ∙ lowest.1))
          | inr m ↦ m
        ] in
        record {
          past = past;
          holds = turned_at (64 * k + t) inside ∙ sym (s.high t lowest.0 past) ∙ lowest.1;
          least = λ j h l. turned_at j (omega arith) ∙ ap not (before_digit ws start k word t s (omega (arith, lowest.0)) lowest.2 j h l);
        }
