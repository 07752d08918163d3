-- Words of which each place has moved up or down, and the lists that they keep.
use Rattle.std.proofs.Common.{◌≡◌, ◌≢◌, ℕ, ◌+◌, ◌-◌, ◌*◌, ◌/◌, ◌%◌, ◌^◌, ◌<◌, ◌≤◌, Bool, false, ◌||◌, List, [], ◌∷◌, ◌++◌, length, replicate, take, drop, get_or, set, refl, sym, ap, ◌∙◌, arith, inl, inr}
use Rattle.std.specs.Prelude.{bit_or}
use Rattle.std.proofs.Math.Bool.{or-false}
use Rattle.std.proofs.lemmas.Bool.{cases_eq, cases_lt}
use Rattle.std.proofs.lemmas.List.{length-set, length-append, length-replicate, length-take, length-drop, get_or-set_same, get_or-set_other, get_or_append_left, get_or-append_right, get_or-replicate, get_or-take, get_or-drop}
use Rattle.giputils_bits.specs.Prelude.{IsLaid, IsPacked, MovesDown, MovesUp, bits_of, has_digit, place}
use Rattle.giputils_bits.proofs.Digits.{has_digit-zero, has_digit-or, has_digit-above, has_digit-shl_low, has_digit-shl_high, has_digit-shr}
use Rattle.giputils_bits.proofs.Logic.{get_or-falses}
use Rattle.giputils_bits.proofs.Overlaid.{Carries-next, IsLaid-word}
use Rattle.giputils_bits.proofs.Places.{place_is, place-past, length-bits_of, get_or-bits_of_all, bits_of_is}

-- ---- up: the word that comes to place k
pub IsLaid-first : (n : ℕ) (ws : List ℕ) (k : ℕ) → n / 64 ≡ k → IsLaid n ws k (get_or ws 0 0 * 2 ^ (n % 64) % 2 ^ 64)
IsLaid-first n ws k at = record {
  below = λ d within h. has_digit-shl_low (get_or ws 0 0) (n % 64) d (omega arith) within;
  above = λ d within h.
      let word : (64 * k + d - n) / 64 ≡ 0 = omega arith in
      let digit : (64 * k + d - n) % 64 ≡ d - n % 64 = omega arith in
      has_digit-shl_high (get_or ws 0 0) (n % 64) d (omega arith) within ∙ sym (rw (place_is ws (64 * k + d - n), word, digit) refl);
}

pub IsLaid-joined : (n : ℕ) (ws : List ℕ) (from k : ℕ) → n / 64 + from ≡ k → 0 < from → get_or ws (from - 1) 0 < 2 ^ 64
    → IsLaid n ws k (bit_or (get_or ws from 0 * 2 ^ (n % 64) % 2 ^ 64) (get_or ws (from - 1) 0 / 2 ^ 1 / 2 ^ (64 - 1 - n % 64)))
IsLaid-joined n ws from k at some fits = IsLaid-word n ws from k _ at (Carries-next n ws (from - 1) k fits (omega arith))

-- ---- one word after another
-- a word is put in the place of word k
module _ (mid : List ℕ) (k w : ℕ) (within : k < length mid) where
  pub place-put : (i : ℕ) → i / 64 ≡ k → place (set mid k w) i ≡ has_digit w (i % 64)
  place-put i e = rw (place_is (set mid k w) i, e, get_or-set_same mid k w 0 within) refl

  pub place-elsewhere : (i : ℕ) → i / 64 ≢ k → place (set mid k w) i ≡ place mid i
  place-elsewhere i m = rw (place_is (set mid k w) i, get_or-set_other mid k (i / 64) w 0 m) (sym (place_is mid i))

pub MovesUp-none : (n : ℕ) (ws : List ℕ) → MovesUp n ws ws (64 * length ws)
MovesUp-none n ws = record {
  count = refl;
  low = λ i h l. place-past ws i h;
  moved = λ i h l past. absurd (omega arith);
  rest = λ i l. refl;
}

pub MovesUp-more : (n : ℕ) (old mid : List ℕ) (k next w : ℕ) → k + 1 ≡ next → k < length mid → IsLaid n mid k w
    → MovesUp n old mid (64 * next) → MovesUp n old (set mid k w) (64 * k)
MovesUp-more n old mid k next w at within laid m = record {
  count = length-set mid k w ∙ m.count;
  low = λ i h l. elim (cases_eq (i / 64) k) [
    | inl e ↦ place-put mid k w within i e ∙ laid.below (i % 64) (omega arith) (omega arith)
    | inr other ↦ place-elsewhere mid k w within i other ∙ m.low i (omega arith) l
  ];
  moved = λ i h l past. elim (cases_eq (i / 64) k) [
    | inl e ↦
        let from : 64 * k + i % 64 - n ≡ i - n = omega arith in
        place-put mid k w within i e ∙ laid.above (i % 64) (omega arith) (omega arith) ∙ ap (place mid) from ∙ m.rest (i - n) (omega arith)
    | inr other ↦ place-elsewhere mid k w within i other ∙ m.moved i (omega arith) l past
  ];
  rest = λ i l. place-elsewhere mid k w within i (λ e. omega arith) ∙ m.rest i (omega arith);
}

-- ---- down: the word that comes to place k
module _ (n : ℕ) (ws : List ℕ) (k : ℕ) where
  pub moved_none : length ws - k ≤ n / 64 → (d : ℕ) → d < 64 → has_digit 0 d ≡ place ws (64 * k + d + n)
  moved_none past d within = has_digit-zero d ∙ sym (place-past ws (64 * k + d + n) (omega arith))

  -- the digits of a word and of the word behind it, where the word is the one that holds place 64 * k + n
  module _ (from : ℕ) (at : k + n / 64 ≡ from) where
    moved_low : (d : ℕ) → n % 64 + d < 64 → has_digit (get_or ws from 0 / 2 ^ (n % 64)) d ≡ place ws (64 * k + d + n)
    moved_low d l =
        let word : (64 * k + d + n) / 64 ≡ from = omega arith in
        let digit : (64 * k + d + n) % 64 ≡ n % 64 + d = omega arith in
        has_digit-shr (get_or ws from 0) (n % 64) d ∙ sym (rw (place_is ws (64 * k + d + n), word, digit) refl)

    pub moved_last : from + 1 ≡ length ws → get_or ws from 0 < 2 ^ 64 → (d : ℕ) → d < 64 → has_digit (get_or ws from 0 / 2 ^ (n % 64)) d ≡ place ws (64 * k + d + n)
    moved_last last fits d within = elim (cases_lt (n % 64 + d) 64) [
      | inl l ↦ moved_low d l
      | inr m ↦ has_digit-shr (get_or ws from 0) (n % 64) d ∙ has_digit-above (get_or ws from 0) 64 (n % 64 + d) fits m
          ∙ sym (place-past ws (64 * k + d + n) (omega arith))
    ]

    -- the word behind, shifted up: `<< 1 << (63 - shift)` needs no case for shift 0
    behind_low : (v d : ℕ) → n % 64 + d < 64 → has_digit (v * 2 ^ 1 % 2 ^ 64 * 2 ^ (64 - 1 - n % 64) % 2 ^ 64) d ≡ false
    behind_low v d l = elim (cases_lt d (64 - 1 - n % 64)) [
      | inl low ↦ has_digit-shl_low (v * 2 ^ 1 % 2 ^ 64) (64 - 1 - n % 64) d low (omega arith)
      | inr m ↦
          let none : d - (64 - 1 - n % 64) ≡ 0 = omega arith in
          has_digit-shl_high (v * 2 ^ 1 % 2 ^ 64) (64 - 1 - n % 64) d m (omega arith)
          ∙ ap (has_digit (v * 2 ^ 1 % 2 ^ 64)) none ∙ has_digit-shl_low v 1 0 (omega arith) (omega arith)
    ]

    behind_high : (v d : ℕ) → d < 64 → 64 ≤ n % 64 + d → has_digit (v * 2 ^ 1 % 2 ^ 64 * 2 ^ (64 - 1 - n % 64) % 2 ^ 64) d ≡ has_digit v (n % 64 + d - 64)
    behind_high v d within past =
        let digit : d - (64 - 1 - n % 64) - 1 ≡ n % 64 + d - 64 = omega arith in
        has_digit-shl_high (v * 2 ^ 1 % 2 ^ 64) (64 - 1 - n % 64) d (omega arith) within
        ∙ has_digit-shl_high v 1 (d - (64 - 1 - n % 64)) (omega arith) (omega arith) ∙ ap (has_digit v) digit

    pub moved_joined : get_or ws from 0 < 2 ^ 64 → (d : ℕ) → d < 64
        → has_digit (bit_or (get_or ws from 0 / 2 ^ (n % 64)) (get_or ws (from + 1) 0 * 2 ^ 1 % 2 ^ 64 * 2 ^ (64 - 1 - n % 64) % 2 ^ 64)) d ≡ place ws (64 * k + d + n)
    moved_joined fits d within =
        let low : ℕ = get_or ws from 0 / 2 ^ (n % 64) in
        let v : ℕ = get_or ws (from + 1) 0 in
        has_digit-or low _ d ∙ elim (cases_lt (n % 64 + d) 64) [
          | inl l ↦ ap (λ b. has_digit low d || b) (behind_low v d l) ∙ or-false _ ∙ moved_low d l
          | inr m ↦
              let word : (64 * k + d + n) / 64 ≡ from + 1 = omega arith in
              let digit : (64 * k + d + n) % 64 ≡ n % 64 + d - 64 = omega arith in
              ap (λ b. b || has_digit (v * 2 ^ 1 % 2 ^ 64 * 2 ^ (64 - 1 - n % 64) % 2 ^ 64) d)
              (has_digit-shr (get_or ws from 0) (n % 64) d ∙ has_digit-above (get_or ws from 0) 64 (n % 64 + d) fits m)
              ∙ behind_high v d within m ∙ sym (rw (place_is ws (64 * k + d + n), word, digit) refl)
        ]

pub MovesDown-none : (n : ℕ) (ws : List ℕ) → MovesDown n ws ws 0
MovesDown-none n ws = record { count = refl; moved = λ i l. absurd (omega arith); rest = λ i h. refl }

pub MovesDown-more : (n : ℕ) (old mid : List ℕ) (k w : ℕ) → k < length mid → ((d : ℕ) → d < 64 → has_digit w d ≡ place mid (64 * k + d + n))
    → MovesDown n old mid (64 * k) → MovesDown n old (set mid k w) (64 * (k + 1))
MovesDown-more n old mid k w within law m = record {
  count = length-set mid k w ∙ m.count;
  moved = λ i l. elim (cases_eq (i / 64) k) [
    | inl e ↦
        let from : 64 * k + i % 64 + n ≡ i + n = omega arith in
        place-put mid k w within i e ∙ law (i % 64) (omega arith) ∙ ap (place mid) from ∙ m.rest (i + n) (omega arith)
    | inr other ↦ place-elsewhere mid k w within i other ∙ m.moved i (omega arith)
  ];
  rest = λ i h. place-elsewhere mid k w within i (λ e. omega arith) ∙ m.rest i (omega arith);
}

-- ---- the lists that are kept
-- a list without a place stays so
pub none_moved : (bs xs : List Bool) → length bs ≡ 0 → bs ≡ take (length bs) xs
none_moved [] xs none = refl
none_moved (b ∷ bs) xs none = absurd (omega (arith, none))

module _ (n m : ℕ) (old new : List ℕ) (bs : List Bool) (v : bits_of n old ≡ bs) (p : IsPacked n old) where
  long : length bs ≡ n
  long = sym (ap length v) ∙ length-bits_of n old

  at_place : (i : ℕ) → get_or bs i false ≡ place old i
  at_place i = ap (λ xs. get_or xs i false) (sym v) ∙ get_or-bits_of_all n old p.padding i

  pub bits_of-moved_up : MovesUp m old new 0 → bits_of n new ≡ take (length bs) (replicate m false ++ bs)
  bits_of-moved_up moves = bits_of_is n new _ (omega (arith, length-take (length bs) (replicate m false ++ bs), length-append (replicate m false) bs, length-replicate m false, long)) (λ i below.
      elim (cases_lt i m) [
        | inl l ↦ moves.low i (omega arith) l
            ∙ sym (get_or-take (length bs) _ i false (omega (arith, long)) ∙ get_or_append_left (replicate m false) bs false i (omega (arith, length-replicate m false))
            ∙ get_or-replicate m i false false l)
        | inr past ↦ moves.moved i (omega arith) (omega (arith, p.count)) past
            ∙ sym (get_or-take (length bs) _ i false (omega (arith, long)) ∙ get_or-append_right (replicate m false) bs m i false (length-replicate m false) past
            ∙ at_place (i - m))
      ])

  pub bits_of-moved_down : MovesDown m old new (64 * length old) → bits_of n new ≡ take (length bs) (drop m bs ++ replicate m false)
  bits_of-moved_down moves =
      let rest : length (drop m bs) ≡ n - m = omega (arith, length-drop m bs, long) in
      bits_of_is n new _ (omega (arith, length-take (length bs) (drop m bs ++ replicate m false), length-append (drop m bs) (replicate m false), length-replicate m false, rest, long)) (λ i below.
      moves.moved i (omega (arith, p.count)) ∙ sym (get_or-take (length bs) _ i false (omega (arith, long)) ∙ elim (cases_lt i (n - m)) [
        | inl l ↦
            let from : m + i ≡ i + m = omega arith in
            get_or_append_left (drop m bs) (replicate m false) false i (omega (arith, rest)) ∙ get_or-drop m bs i false ∙ ap (λ k. get_or bs k false) from ∙ at_place (i + m)
        | inr past ↦ get_or-append_right (drop m bs) (replicate m false) (n - m) i false rest past ∙ get_or-falses m (i - (n - m)) ∙ sym (p.padding (i + m) (omega arith))
      ]))

  pub IsPacked-moved_down : MovesDown m old new (64 * length old) → IsPacked n new
  IsPacked-moved_down moves = record {
    count = moves.count ∙ p.count;
    padding = λ i past. elim (cases_lt i (64 * length old)) [
      | inl l ↦ moves.moved i l ∙ p.padding (i + m) (omega arith)
      | inr l ↦ place-past new i (omega (arith, moves.count))
    ];
  }
