-- A word appended to a list that is kept in words.
use Rattle.std.proofs.Common.{◌≡◌, ◌≢◌, ℕ, ◌+◌, ◌-◌, ◌*◌, ◌/◌, ◌%◌, ◌^◌, ◌<◌, false, ◌||◌, List, [], ◌∷◌, ◌++◌, length, get_or, set, sym, ap, ◌∙◌, arith, inl, inr, refl}
use Rattle.std.specs.Prelude.{bit_or}
use Rattle.std.proofs.Math.Bool.{or-false}
use Rattle.std.proofs.lemmas.List.{length-set, length-append, length_push, get_or-set_same, get_or-set_other, get_or_append_left, get_or-append_right}
use Rattle.std.proofs.lemmas.Bool.{cases_eq, cases_lt}
use Rattle.giputils_bits.specs.Prelude.{AppendsWord, IsPacked, bits_of, digits_of, has_digit, place}
use Rattle.giputils_bits.proofs.Digits.{has_digit-or, has_digit-shl_low, has_digit-shl_high, has_digit-shr, length-digits_of, get_or-digits_of}
use Rattle.giputils_bits.proofs.Places.{place_is, place-past, place-word, length-bits_of, get_or-bits_of, bits_of_is}

-- at the start: the word takes the place of the only one
pub AppendsWord-first : (n : ℕ) (old : List ℕ) (w : ℕ) → n ≡ 0 → IsPacked n old → AppendsWord n old (set old 0 w) w
AppendsWord-first n [] w none p = absurd (omega (arith, p.count))
AppendsWord-first n (v ∷ []) w none p = record {
  count = omega (arith, none);
  before = λ j h. absurd (omega (arith, none));
  after = λ j h. let same : j ≡ j - n = omega (arith, none) in ap (λ k. place (w ∷ []) k) same;
}
AppendsWord-first n (v ∷ u ∷ ws) w none p = absurd (omega (arith, p.count, none))

-- at a word's end
pub AppendsWord-push : (n : ℕ) (old : List ℕ) (w : ℕ) → w < 2 ^ 64 → n % 64 ≡ 0 → 0 < n → IsPacked n old → AppendsWord n old (old ++ w ∷ []) w
AppendsWord-push n old w fits full some p = record {
  count = omega (arith, length_push old w, p.count);
  before = λ j h. rw (place_is (old ++ w ∷ []) j, get_or_append_left old (w ∷ []) 0 (j / 64) (omega (arith, p.count))) (sym (place_is old j));
  after = λ j h.
      let word : j / 64 - length old ≡ (j - n) / 64 = omega (arith, p.count) in
      let digit : j % 64 ≡ (j - n) % 64 = omega arith in
      rw (place_is (old ++ w ∷ []) j, get_or-append_right old (w ∷ []) (length old) (j / 64) 0 refl (omega (arith, p.count)), word, digit) (sym (place_is (w ∷ []) (j - n)));
}

-- within a word: the low digits fill the last word, and the others go to a word more
pub AppendsWord-shift : (n : ℕ) (old : List ℕ) (w : ℕ) → w < 2 ^ 64 → n % 64 ≢ 0 → IsPacked n old
    → AppendsWord n old (set (old ++ w / 2 ^ (64 - n % 64) ∷ []) (n / 64) (bit_or (get_or (old ++ w / 2 ^ (64 - n % 64) ∷ []) (n / 64) 0) (w * 2 ^ (n % 64) % 2 ^ 64))) w
AppendsWord-shift n old w fits inside p =
    let high : ℕ = w / 2 ^ (64 - n % 64) in
    let low : ℕ = w * 2 ^ (n % 64) % 2 ^ 64 in
    let long : List ℕ = old ++ high ∷ [] in
    let v : ℕ = bit_or (get_or long (n / 64) 0) low in
    let size : length long ≡ length old + 1 = length_push old high in
    let within : n / 64 < length long = omega (arith, p.count) in
    let last : get_or long (n / 64) 0 ≡ get_or old (n / 64) 0 = get_or_append_left old (high ∷ []) 0 (n / 64) (omega (arith, p.count)) in
    let at_last : (j : ℕ) → j / 64 ≡ n / 64 → place (set long (n / 64) v) j ≡ (place old j || has_digit low (j % 64)) = λ j q.
    rw (place_is (set long (n / 64) v) j, q, get_or-set_same long (n / 64) v 0 within, has_digit-or (get_or long (n / 64) 0) low (j % 64), last, place_is old j, q) refl in
    record {
      count = omega (arith, length-set long (n / 64) v, p.count);
      before = λ j h. elim (cases_eq (j / 64) (n / 64)) [
        | inl q ↦ at_last j q ∙ rw (has_digit-shl_low w (n % 64) (j % 64) (omega arith) (omega arith)) (or-false (place old j))
        | inr m ↦ rw (place_is (set long (n / 64) v) j, get_or-set_other long (n / 64) (j / 64) v 0 m, get_or_append_left old (high ∷ []) 0 (j / 64) (omega (arith, p.count))) (sym (place_is old j))
      ];
      after = λ j h. elim (cases_eq (j / 64) (n / 64)) [
        | inl q ↦
            let digit : j % 64 - n % 64 ≡ j - n = omega arith in
            at_last j q ∙ rw (p.padding j h, has_digit-shl_high w (n % 64) (j % 64) (omega arith) (omega arith), digit) (sym (place-word w (j - n) fits))
        | inr m ↦ elim (cases_eq (j / 64) (length old)) [
          | inl q ↦
              let none : j / 64 - length old ≡ 0 = omega arith in
              let digit : 64 - n % 64 + j % 64 ≡ j - n = omega (arith, p.count) in
              rw (
                place_is (set long (n / 64) v) j,
                get_or-set_other long (n / 64) (j / 64) v 0 m,
                get_or-append_right old (high ∷ []) (length old) (j / 64) 0 refl (omega arith),
                none,
                has_digit-shr w (64 - n % 64) (j % 64),
                digit,
              ) (sym (place-word w (j - n) fits))
          | inr o ↦ place-past (set long (n / 64) v) j (omega (arith, length-set long (n / 64) v, p.count)) ∙ sym (place-past (w ∷ []) (j - n) (omega (arith, p.count)))
        ]
      ];
    }

-- what it makes of the list
pub IsPacked-AppendsWord : (n : ℕ) (old new : List ℕ) (w : ℕ) → AppendsWord n old new w → IsPacked (n + 64) new
IsPacked-AppendsWord n old new w a = record { count = omega (arith, a.count); padding = λ j h. a.after j (omega arith) ∙ place-past (w ∷ []) (j - n) (omega arith) }

pub bits_of-AppendsWord : (n : ℕ) (old new : List ℕ) (w : ℕ) → w < 2 ^ 64 → AppendsWord n old new w → bits_of (n + 64) new ≡ bits_of n old ++ digits_of 64 w
bits_of-AppendsWord n old new w fits a =
    bits_of_is (n + 64) new _ (omega (arith, length-append (bits_of n old) (digits_of 64 w), length-bits_of n old, length-digits_of 64 w)) (λ j l. elim (cases_lt j n) [
      | inl h ↦ a.before j h ∙ sym (get_or_append_left (bits_of n old) (digits_of 64 w) false j (omega (arith, length-bits_of n old)) ∙ get_or-bits_of n old j false h)
      | inr h ↦ a.after j h ∙ place-word w (j - n) fits
          ∙ sym (get_or-append_right (bits_of n old) (digits_of 64 w) n j false (length-bits_of n old) h ∙ get_or-digits_of 64 w (j - n) false (omega arith))
    ])
