-- Words written in place: a word of the list put anew, and the same word everywhere.
use Rattle.std.proofs.Common.{◌≡◌, ℕ, ◌+◌, ◌-◌, ◌*◌, ◌/◌, ◌%◌, ◌^◌, ◌<◌, ◌≤◌, min, Bool, false, ◌&&◌, ◌||◌, List, replicate, [], ◌∷◌, ◌++◌, length, get_or, set, take, drop, refl, sym, ap, ◌∙◌, arith, inl, inr}
use Rattle.std.specs.Prelude.{bit_and, bit_or, ◌⊎◌}
use Rattle.std.proofs.Math.Bool.{and-true, and-false, or-false, or_self}
use Rattle.std.proofs.Math.Seq.{take-append-add}
use Rattle.std.proofs.lemmas.Bool.{cases_eq, cases_lt}
use Rattle.std.proofs.lemmas.List.{length-replicate, get_or-replicate, take-replicate, take_all, take_more, length-set, length-take, length-drop, length-append, get_or-take, get_or-drop, get_or-set_same, get_or-set_other, get_or_append_left, get_or-append_right}
use Rattle.giputils_bits.specs.Prelude.{IsPacked, bits_of, digits_of, has_digit, place, value_of, with_word}
use Rattle.giputils_bits.proofs.Digits.{has_digit-or, has_digit-shl_low, has_digit-shl_high, has_digit-value_of, has_digit-ones, has_digit-ones_above, length-digits_of, get_or-digits_of, has_digit-and}
use Rattle.giputils_bits.proofs.Places.{place_is, place-past, length-bits_of, get_or-bits_of, bits_of_is}

-- the digits of a word that a list of n places has room for from place 64 * k on
abbrev pub cut_word : ℕ → ℕ → ℕ → ℕ
cut_word n k word = bit_and word (2 ^ min (n - 64 * k) 64 - 1)

has_digit-cut : (n k word i : ℕ) → i < 64 → 64 * k + i < n → has_digit (cut_word n k word) i ≡ has_digit word i
has_digit-cut n k word i below within =
    has_digit-and word _ i ∙ ap (λ b. has_digit word i && b) (has_digit-ones (min (n - 64 * k) 64) i (omega arith)) ∙ and-true _

has_digit-cut_past : (n k word i : ℕ) → i < 64 → n ≤ 64 * k + i → has_digit (cut_word n k word) i ≡ false
has_digit-cut_past n k word i below past =
    has_digit-and word _ i ∙ ap (λ b. has_digit word i && b) (has_digit-ones_above (min (n - 64 * k) 64) i (omega arith)) ∙ and-false _

module _ (n : ℕ) (ws : List ℕ) (k word : ℕ) (within : k < length ws) where
  -- the words, with the word put in
  abbrev pub written : List ℕ
  written = set ws k (cut_word n k word)

  place-written : (i : ℕ) → i / 64 ≡ k → place written i ≡ has_digit (cut_word n k word) (i % 64)
  place-written i e = rw (place_is written i, e, get_or-set_same ws k (cut_word n k word) 0 within) refl

  place-unwritten : (i : ℕ) → (i / 64 ≡ k → ⊥) → place written i ≡ place ws i
  place-unwritten i m = rw (place_is written i, get_or-set_other ws k (i / 64) (cut_word n k word) 0 m) (sym (place_is ws i))

  pub IsPacked-written : IsPacked n ws → IsPacked n written
  IsPacked-written p = record {
    count = length-set ws k (cut_word n k word) ∙ p.count;
    padding = λ i past. elim (cases_eq (i / 64) k) [
      | inl e ↦ place-written i e ∙ has_digit-cut_past n k word (i % 64) (omega arith) (omega arith)
      | inr m ↦ place-unwritten i m ∙ p.padding i past
    ];
  }

  pub bits_of-written : 64 * k < n → bits_of n written ≡ with_word k word (bits_of n ws)
  bits_of-written some =
      let bs : List Bool = bits_of n ws in
      let front : length (take (64 * k) bs) ≡ 64 * k = omega (arith, length-take (64 * k) bs, length-bits_of n ws) in
      let all : length (take (64 * k) bs ++ (digits_of 64 word ++ drop (64 * k + 64) bs)) ≡ 64 * k + (64 + (n - (64 * k + 64))) =
      omega (
        arith,
        length-append (take (64 * k) bs) (digits_of 64 word ++ drop (64 * k + 64) bs),
        length-append (digits_of 64 word) (drop (64 * k + 64) bs),
        front,
        length-digits_of 64 word,
        length-drop (64 * k + 64) bs,
        length-bits_of n ws,
      ) in
      bits_of_is n written (with_word k word bs) (omega (
        arith,
        length-take (length bs) (take (64 * k) bs ++ (digits_of 64 word ++ drop (64 * k + 64) bs)),
        length-bits_of n ws,
        all,
      )) (λ i below.
      elim (cases_eq (i / 64) k) [
        | inl e ↦
            place-written i e ∙ has_digit-cut n k word (i % 64) (omega arith) (omega arith)
            ∙ sym (get_or-take (length bs) _ i false (omega (arith, length-bits_of n ws))
            ∙ get_or-append_right (take (64 * k) bs) _ (64 * k) i false front (omega arith)
            ∙ get_or_append_left (digits_of 64 word) _ false (i - 64 * k) (omega (arith, length-digits_of 64 word))
            ∙ get_or-digits_of 64 word (i - 64 * k) false (omega arith)
            ∙ ap (has_digit word) (let digit : i - 64 * k ≡ i % 64 = omega arith in digit))
        | inr m ↦ place-unwritten i m ∙ sym (get_or-take (length bs) _ i false (omega (arith, length-bits_of n ws)) ∙ elim (cases_lt i (64 * k)) [
          | inl l ↦ get_or_append_left (take (64 * k) bs) _ false i (omega (arith, front)) ∙ get_or-take (64 * k) bs i false l ∙ get_or-bits_of n ws i false below
          | inr l ↦
              get_or-append_right (take (64 * k) bs) _ (64 * k) i false front l
              ∙ get_or-append_right (digits_of 64 word) _ 64 (i - 64 * k) false (length-digits_of 64 word) (omega arith)
              ∙ get_or-drop (64 * k + 64) bs (i - 64 * k - 64) false
              ∙ ap (λ j. get_or bs j false) (let back : 64 * k + 64 + (i - 64 * k - 64) ≡ i = omega arith in back)
              ∙ get_or-bits_of n ws i false below
        ])
      ])

-- ---- the places past a shorter length taken away
module _ (n m : ℕ) (ws : List ℕ) (some : 0 < m) (shorter : m ≤ n) (p : IsPacked n ws) where
  -- the words of m places, the last of them without the digits past them
  abbrev pub shortened : List ℕ
  shortened = set (take ((m - 1) / 64 + 1) ws) ((m - 1) / 64) (bit_and (get_or (take ((m - 1) / 64 + 1) ws) ((m - 1) / 64) 0) (2 ^ (m - 64 * ((m - 1) / 64)) - 1))

  count_shortened : length (take ((m - 1) / 64 + 1) ws) ≡ (m - 1) / 64 + 1
  count_shortened = omega (arith, length-take ((m - 1) / 64 + 1) ws, p.count)

  place-shortened_last : (i : ℕ) → i / 64 ≡ (m - 1) / 64 → place shortened i ≡ (place ws i && has_digit (2 ^ (m - 64 * ((m - 1) / 64)) - 1) (i % 64))
  place-shortened_last i e =
      rw (
        place_is shortened i,
        place_is ws i,
        e,
        get_or-set_same (take ((m - 1) / 64 + 1) ws) ((m - 1) / 64) _ 0 (omega (arith, count_shortened)),
        get_or-take ((m - 1) / 64 + 1) ws ((m - 1) / 64) 0 (omega arith),
      )
      (has_digit-and _ _ (i % 64))

  place-shortened : (i : ℕ) → i / 64 < (m - 1) / 64 → place shortened i ≡ place ws i
  place-shortened i l =
      rw (
        place_is shortened i,
        place_is ws i,
        get_or-set_other (take ((m - 1) / 64 + 1) ws) ((m - 1) / 64) (i / 64)
            (bit_and (get_or (take ((m - 1) / 64 + 1) ws) ((m - 1) / 64) 0) (2 ^ (m - 64 * ((m - 1) / 64)) - 1)) 0
            (λ e. omega arith),
        get_or-take ((m - 1) / 64 + 1) ws (i / 64) 0 (omega arith),
      ) refl

  pub IsPacked-shortened : IsPacked m shortened
  IsPacked-shortened = record {
    count = length-set (take ((m - 1) / 64 + 1) ws) ((m - 1) / 64) _ ∙ omega (arith, count_shortened);
    padding = λ i past. elim (cases_eq (i / 64) ((m - 1) / 64)) [
      | inl e ↦ place-shortened_last i e ∙ ap (λ b. place ws i && b) (has_digit-ones_above (m - 64 * ((m - 1) / 64)) (i % 64) (omega arith)) ∙ and-false _
      | inr o ↦ place-past shortened i (omega (
        arith,
        length-set (take ((m - 1) / 64 + 1) ws) ((m - 1) / 64)
            (bit_and (get_or (take ((m - 1) / 64 + 1) ws) ((m - 1) / 64) 0) (2 ^ (m - 64 * ((m - 1) / 64)) - 1)),
        count_shortened,
      ))
    ];
  }

  pub bits_of-shortened : bits_of m shortened ≡ take m (bits_of n ws)
  bits_of-shortened = bits_of_is m shortened (take m (bits_of n ws)) (omega (arith, length-take m (bits_of n ws), length-bits_of n ws)) (λ i below.
      elim (cases_eq (i / 64) ((m - 1) / 64)) [
        | inl e ↦ place-shortened_last i e ∙ ap (λ b. place ws i && b) (has_digit-ones (m - 64 * ((m - 1) / 64)) (i % 64) (omega arith)) ∙ and-true _
        | inr o ↦ place-shortened i (omega arith)
      ]
      ∙ sym (get_or-take m (bits_of n ws) i false below ∙ get_or-bits_of n ws i false (omega arith)))

-- the digits past the last of m places taken away
module _ (m : ℕ) (ws : List ℕ) (some : 0 < m) (count : length ws ≡ (m - 1) / 64 + 1) where
  abbrev pub trimmed : List ℕ
  trimmed = set ws ((m - 1) / 64) (bit_and (get_or ws ((m - 1) / 64) 0) (2 ^ (m - 64 * ((m - 1) / 64)) - 1))

  as_whole : take ((m - 1) / 64 + 1) ws ≡ ws
  as_whole = take_all ((m - 1) / 64 + 1) ws (omega (arith, count))

  all_packed : IsPacked (64 * length ws) ws
  all_packed = record { count = omega (arith, count); padding = λ i past. place-past ws i past }

  fewer_places : take m (bits_of (64 * length ws) ws) ≡ bits_of m ws
  fewer_places = sym (bits_of_is m ws (take m (bits_of (64 * length ws) ws))
      (omega (arith, length-take m (bits_of (64 * length ws) ws), length-bits_of (64 * length ws) ws, count)) (λ i below.
      sym (get_or-take m (bits_of (64 * length ws) ws) i false below
      ∙ get_or-bits_of (64 * length ws) ws i false (omega (arith, count)))))

  pub IsPacked-trimmed : IsPacked m trimmed
  IsPacked-trimmed = rw as_whole at (IsPacked-shortened (64 * length ws) m ws some (omega (arith, count)) all_packed)

  pub bits_of-trimmed : bits_of m trimmed ≡ bits_of m ws
  bits_of-trimmed = (rw as_whole at (bits_of-shortened (64 * length ws) m ws some (omega (arith, count)) all_packed)) ∙ fewer_places

-- a list is all but its last place, and then that one
pub last_taken : (bs : List Bool) → 0 < length bs → bs ≡ take (length bs - 1) bs ++ get_or bs (length bs - 1) false ∷ []
last_taken bs some =
    let all : length bs - 1 + 1 ≡ length bs = omega arith in
    sym (take_all (length bs) bs (omega arith)) ∙ ap (λ n. take n bs) (sym all) ∙ take_more bs (length bs - 1) false (omega arith)

-- ---- a value appended
module _ (n count : ℕ) (ws : List ℕ) (val : Bool) (room : n < 64 * count) (long : length ws ≤ count) (p : IsPacked n ws) where
  -- a word of that value
  abbrev pub full_word : ℕ
  full_word = value_of (replicate 64 val)

  -- the words, with words of the value behind them
  abbrev pub lengthened : List ℕ
  lengthened = ws ++ replicate (count - length ws) full_word

  -- and the value in the last of the old words too
  abbrev pub filled_up : List ℕ
  filled_up = set lengthened (n / 64) (bit_or (get_or lengthened (n / 64) 0) (full_word * 2 ^ (n % 64) % 2 ^ 64))

  count-lengthened : length lengthened ≡ count
  count-lengthened = omega (arith, length-append ws (replicate (count - length ws) full_word), length-replicate (count - length ws) full_word)

  has_digit-full : (i : ℕ) → i < 64 → has_digit full_word i ≡ val
  has_digit-full i below = has_digit-value_of (replicate 64 val) i ∙ get_or-replicate 64 i val false below

  place-lengthened_old : (i : ℕ) → i / 64 < length ws → place lengthened i ≡ place ws i
  place-lengthened_old i l = rw (place_is lengthened i, place_is ws i, get_or_append_left ws (replicate (count - length ws) full_word) 0 (i / 64) l) refl

  place-lengthened_new : (i : ℕ) → length ws ≤ i / 64 → i / 64 < count → place lengthened i ≡ val
  place-lengthened_new i past within =
      place_is lengthened i
      ∙ ap (λ w. has_digit w (i % 64)) (get_or-append_right ws (replicate (count - length ws) full_word) (length ws)
      (i / 64) 0 refl past ∙ get_or-replicate (count - length ws) (i / 64 - length ws) full_word 0
      (omega arith))
      ∙ has_digit-full (i % 64) (omega arith)

  place-filled_at : (i : ℕ) → i / 64 ≡ n / 64 → place filled_up i ≡ (place lengthened i || has_digit (full_word * 2 ^ (n % 64) % 2 ^ 64) (i % 64))
  place-filled_at i e =
      place_is filled_up i
      ∙ ap (λ k. has_digit (get_or filled_up k 0) (i % 64)) e
      ∙ ap (λ w. has_digit w (i % 64)) (get_or-set_same lengthened (n / 64) _ 0 (omega (arith, count-lengthened)))
      ∙ has_digit-or _ _ (i % 64)
      ∙ ap (λ b. b || has_digit (full_word * 2 ^ (n % 64) % 2 ^ 64) (i % 64)) (sym (place_is lengthened i ∙ ap (λ k. has_digit (get_or lengthened k 0) (i % 64)) e))

  place-filled_other : (i : ℕ) → (i / 64 ≡ n / 64 → ⊥) → place filled_up i ≡ place lengthened i
  place-filled_other i m = place_is filled_up i ∙ ap (λ w. has_digit w (i % 64)) (get_or-set_other lengthened (n / 64) (i / 64) _ 0 m) ∙ sym (place_is lengthened i)

  place-filled_low : (i : ℕ) → i < n → place filled_up i ≡ place ws i
  place-filled_low i l = elim (cases_eq (i / 64) (n / 64)) [
    | inl e ↦ place-filled_at i e ∙ ap (λ b. place lengthened i || b)
        (has_digit-shl_low full_word (n % 64) (i % 64) (omega arith) (omega arith)) ∙ or-false _
        ∙ place-lengthened_old i (omega (arith, p.count))
    | inr m ↦ place-filled_other i m ∙ place-lengthened_old i (omega (arith, p.count))
  ]

  either_way : (b : Bool) → (b ≡ false) ⊎ (b ≡ val) → (b || val) ≡ val
  either_way b (inl e) = ap (λ x. x || val) e
  either_way b (inr e) = ap (λ x. x || val) e ∙ or_self val

  place-filled_high : (i : ℕ) → n ≤ i → i < 64 * count → place filled_up i ≡ val
  place-filled_high i past within = elim (cases_eq (i / 64) (n / 64)) [
    | inl e ↦
        let old : (place lengthened i ≡ false) ⊎ (place lengthened i ≡ val) = elim (cases_lt (i / 64) (length ws)) [
          | inl l ↦ inl (place-lengthened_old i l ∙ p.padding i past)
          | inr l ↦ inr (place-lengthened_new i l (omega arith))
        ] in
        place-filled_at i e
        ∙ ap (λ b. place lengthened i || b) (has_digit-shl_high full_word (n % 64) (i % 64) (omega arith) (omega arith) ∙ has_digit-full (i % 64 - n % 64) (omega arith))
        ∙ either_way (place lengthened i) old
    | inr m ↦ place-filled_other i m ∙ place-lengthened_new i (omega (arith, p.count)) (omega arith)
  ]

  count-filled : length filled_up ≡ count
  count-filled = length-set lengthened (n / 64) _ ∙ count-lengthened

  bits_of-filled : bits_of (64 * count) filled_up ≡ bits_of n ws ++ replicate (64 * count - n) val
  bits_of-filled =
      bits_of_is (64 * count) filled_up (bits_of n ws ++ replicate (64 * count - n) val)
      (omega (arith, length-append (bits_of n ws) (replicate (64 * count - n) val), length-bits_of n ws, length-replicate (64 * count - n) val))
      (λ i below. elim (cases_lt i n) [
        | inl l ↦ place-filled_low i l ∙ sym (get_or_append_left (bits_of n ws) (replicate (64 * count - n) val) false i (omega (arith, length-bits_of n ws)) ∙ get_or-bits_of n ws i false l)
        | inr l ↦ place-filled_high i l below ∙ sym (get_or-append_right (bits_of n ws)
            (replicate (64 * count - n) val) n i false (length-bits_of n ws) l
            ∙ get_or-replicate (64 * count - n) (i - n) val false (omega arith))
      ])

  IsPacked-filled : IsPacked (64 * count) filled_up
  IsPacked-filled = record { count = omega (arith, count-filled); padding = λ i past. place-past filled_up i (omega (arith, count-filled)) }

  module _ (m : ℕ) (last : (m - 1) / 64 + 1 ≡ count) (longer : n < m) where
    -- what is past the new length taken away
    abbrev pub grown_to : List ℕ
    grown_to = set filled_up ((m - 1) / 64) (bit_and (get_or filled_up ((m - 1) / 64) 0) (2 ^ (m - 64 * ((m - 1) / 64)) - 1))

    as_shortened : take ((m - 1) / 64 + 1) filled_up ≡ filled_up
    as_shortened = take_all ((m - 1) / 64 + 1) filled_up (omega (arith, count-filled, last))

    pub IsPacked-grown : IsPacked m grown_to
    IsPacked-grown = rw as_shortened at (IsPacked-shortened (64 * count) m filled_up (omega arith) (omega (arith, last)) IsPacked-filled)

    pub bits_of-grown : bits_of m grown_to ≡ bits_of n ws ++ replicate (m - n) val
    bits_of-grown =
        (rw as_shortened at (bits_of-shortened (64 * count) m filled_up (omega arith) (omega (arith, last)) IsPacked-filled))
        ∙ ap (take m) bits_of-filled
        ∙ ap (λ k. take k (bits_of n ws ++ replicate (64 * count - n) val)) (let e : m ≡ length (bits_of n ws) + (m - n) = omega (arith, length-bits_of n ws) in e)
        ∙ take-append-add (bits_of n ws) (replicate (64 * count - n) val) (m - n)
        ∙ ap (λ bs. bits_of n ws ++ bs) (take-replicate (m - n) (64 * count - n) val (omega (arith, last)))
