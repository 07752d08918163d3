-- The greatest true place of words.
use Rattle.std.proofs.Common.{◌≡◌, ◌≢◌, ℕ, suc, ◌+◌, ◌-◌, ◌*◌, ◌/◌, ◌%◌, ◌^◌, ◌<◌, ◌≤◌, Bool, true, false, eqb, List, get_or, refl, sym, ap, ◌∙◌, arith, inl, inr, w64}
use Rattle.std.specs.Int.{bit_at, leading_zeros}
use Rattle.std.proofs.lemmas.Bool.{cases_lt}
use Rattle.std.proofs.lemmas.Nat.{leading_top}
use Rattle.std.proofs.lemmas.Nat.Bits.{bit_at_cat_high}
use Rattle.std.proofs.Math.Nat.{pow-suc}
use Rattle.giputils_bits.specs.Prelude.{HasNoneFrom, IsPacked, bits_of, has_digit, place}
use Rattle.giputils_bits.proofs.Digits.{has_digit-zero, has_digit-above}
use Rattle.giputils_bits.proofs.Places.{place_is, get_or-bits_of_all}

-- digit j of a number from 2 ^ j on, below 2 ^ (j + 1)
top_digit : (w j : ℕ) → 2 ^ j ≤ w → w < 2 ^ suc j → has_digit w j ≡ true
top_digit w j from below =
    let rest : ℕ = w - 2 ^ j in
    let whole : 1 * 2 ^ j + rest ≡ w = omega (arith, from) in
    let low : rest < 2 ^ j = omega (arith, from, rw pow-suc at below) in
    let none : j - j ≡ 0 = omega arith in
    ap (λ x. eqb x 1) (ap (λ x. bit_at x j) (sym whole) ∙ bit_at_cat_high 1 j rest j low (omega arith) ∙ ap (bit_at 1) none)

-- the highest one of a word
pub highest_one : (w : ℕ) → w ≢ 0 → w < 2 ^ 64
    → (leading_zeros w64 w < 64) × (has_digit w (64 - 1 - leading_zeros w64 w) ≡ true) × ((i : ℕ) → 64 - 1 - leading_zeros w64 w < i → has_digit w i ≡ false)
highest_one w some fits =
    let (j, sum, from, below) = leading_top 64 w (omega (arith, some)) fits in
    let at : 64 - 1 - leading_zeros w64 w ≡ j = omega (arith, sum) in (
      omega (arith, sum),
      ap (has_digit w) at ∙ top_digit w j from below,
      λ i l. has_digit-above w (suc j) i below (omega (arith, at, l)),
    )

-- the words from the k-th on are zeros
pub none_from_word : (ws : List ℕ) (k next : ℕ) → k + 1 ≡ next → ((j : ℕ) → 64 * next ≤ j → place ws j ≡ false) → get_or ws k 0 ≡ 0
    → (j : ℕ) → 64 * k ≤ j → place ws j ≡ false
none_from_word ws k next at none zeros j h = elim (cases_lt j (64 * next)) [
  | inl l ↦
      let word : j / 64 ≡ k = omega arith in
      rw (place_is ws j, word, zeros) (has_digit-zero (j % 64))
  | inr m ↦ none j m
]

module _ (n : ℕ) (ws : List ℕ) (bs : List Bool) (v : bits_of n ws ≡ bs) (p : IsPacked n ws) where
  at_place : (i : ℕ) → get_or bs i false ≡ place ws i
  at_place i = ap (λ xs. get_or xs i false) (sym v) ∙ get_or-bits_of_all n ws p.padding i

  pub none_at_all : ((j : ℕ) → 0 ≤ j → place ws j ≡ false) → HasNoneFrom bs 0
  none_at_all none j h = at_place j ∙ none j h

  module _ (k next : ℕ) (at : k + 1 ≡ next) (some : get_or ws k 0 ≢ 0) (fits : get_or ws k 0 < 2 ^ 64) where
    -- the highest one of word k
    abbrev pub top_place : ℕ
    top_place = 64 * k + (64 - 1 - leading_zeros w64 (get_or ws k 0))

    pub top_holds : get_or bs top_place false ≡ true
    top_holds =
        let d : ℕ = 64 - 1 - leading_zeros w64 (get_or ws k 0) in
        let word : (64 * k + d) / 64 ≡ k = omega arith in
        let digit : (64 * k + d) % 64 ≡ d = omega arith in
        at_place (64 * k + d) ∙ rw (place_is ws (64 * k + d), word, digit) (highest_one (get_or ws k 0) some fits).1

    pub none_past_top : ((j : ℕ) → 64 * next ≤ j → place ws j ≡ false) → HasNoneFrom bs (top_place + 1)
    none_past_top none j h = at_place j ∙ elim (cases_lt j (64 * next)) [
      | inl l ↦
          let word : j / 64 ≡ k = omega arith in
          rw (place_is ws j, word) ((highest_one (get_or ws k 0) some fits).2 (j % 64) (omega arith))
      | inr m ↦ none j m
    ]
