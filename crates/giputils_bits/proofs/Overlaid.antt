-- Words laid over others from any place on, and the list that they append.
--
-- How it is proved: writing words at any offset. State the places before, within and behind the written words
-- (`Overlays`), with the carry as a record of its digits. `w >> 1 >> (63 - shift)` needs no branch at shift 0.
use Rattle.std.proofs.Common.{◌≡◌, ◌≢◌, ℕ, ◌+◌, ◌-◌, ◌*◌, ◌/◌, ◌%◌, ◌^◌, ◌<◌, ◌≤◌, Bool, false, ◌||◌, List, ◌++◌, length, replicate, take, get_or, set, refl, sym, ap, ◌∙◌, arith, inl, inr}
use Rattle.std.specs.Prelude.{bit_or}
use Rattle.std.proofs.Math.Bool.{or-false}
use Rattle.std.proofs.lemmas.List.{length-set, take_all, length-append, length-replicate, get_or-set_same, get_or-set_other, get_or_append_left, get_or-append_right, get_or-replicate}
use Rattle.std.proofs.lemmas.Bool.{cases_eq, cases_lt}
use Rattle.giputils_bits.specs.Prelude.{IsLaid, IsPacked, Overlays, bits_of, has_digit, place}
use Rattle.giputils_bits.proofs.Digits.{has_digit-or, has_digit-above, has_digit-shl_low, has_digit-shl_high, has_digit-shr}
use Rattle.giputils_bits.proofs.Places.{place_is, place-past, length-bits_of, get_or-bits_of, bits_of_is}

pub Overlays-more : (n : ℕ) (others old mid : List ℕ) (j x : ℕ) → j < length mid → IsLaid n others j x → Overlays n others old mid (64 * j)
    → Overlays n others old (set mid j (bit_or (get_or mid j 0) x)) (64 * j + 64)
Overlays-more n others old mid j x within laid o =
    let new : List ℕ = set mid j (bit_or (get_or mid j 0) x) in
    let here : (i : ℕ) → i / 64 ≡ j → place new i ≡ (place mid i || has_digit x (i % 64)) = λ i e.
    rw (place_is new i, place_is mid i, e, get_or-set_same mid j (bit_or (get_or mid j 0) x) 0 within) (has_digit-or (get_or mid j 0) x (i % 64)) in
    let elsewhere : (i : ℕ) → i / 64 ≢ j → place new i ≡ place mid i = λ i m.
    rw (place_is new i, get_or-set_other mid j (i / 64) (bit_or (get_or mid j 0) x) 0 m) (sym (place_is mid i)) in
    record {
      count = length-set mid j (bit_or (get_or mid j 0) x) ∙ o.count;
      before = λ i h. elim (cases_eq (i / 64) j) [
        | inl e ↦ here i e ∙ ap (λ b. place mid i || b) (laid.below (i % 64) (omega arith) (omega arith)) ∙ or-false (place mid i) ∙ o.before i h
        | inr m ↦ elsewhere i m ∙ o.before i h
      ];
      laid = λ i h l. elim (cases_eq (i / 64) j) [
        | inl e ↦
            let at : 64 * j + i % 64 - n ≡ i - n = omega arith in
            here i e ∙ rw (o.rest i (omega arith), laid.above (i % 64) (omega arith) (omega arith), at) refl
        | inr m ↦ elsewhere i m ∙ o.laid i h (omega arith)
      ];
      rest = λ i h. elsewhere i (λ e. omega arith) ∙ o.rest i (omega arith);
    }

-- where nothing is left to be laid
pub Overlays-wider : (n : ℕ) (others old new : List ℕ) (end more : ℕ) → n + 64 * length others ≤ end → Overlays n others old new end → end ≤ more → Overlays n others old new more
Overlays-wider n others old new end more all o wider = record {
  count = o.count;
  before = o.before;
  laid = λ i h l. elim (cases_lt i end) [
    | inl within ↦ o.laid i h within
    | inr past ↦ o.rest i past ∙ sym (ap (λ b. place old i || b) (place-past others (i - n) (omega arith)) ∙ or-false (place old i))
  ];
  rest = λ i h. o.rest i (omega arith);
}

-- ---- words shifted: the high digits of the word before are carried into word j
pub record Carries (n : ℕ) (others : List ℕ) (j carry : ℕ) : Type 0 where
  pub below : (d : ℕ) → 64 * j + d < n → has_digit carry d ≡ false
  pub low : (d : ℕ) → d < n % 64 → n ≤ 64 * j + d → has_digit carry d ≡ place others (64 * j + d - n)
  pub high : (d : ℕ) → n % 64 ≤ d → has_digit carry d ≡ false

pub Carries-next : (n : ℕ) (others : List ℕ) (k j : ℕ) → get_or others k 0 < 2 ^ 64 → n / 64 + k + 1 ≡ j → Carries n others j (get_or others k 0 / 2 ^ 1 / 2 ^ (64 - 1 - n % 64))
Carries-next n others k j fits at =
    let w : ℕ = get_or others k 0 in
    let digit : (d : ℕ) → has_digit (w / 2 ^ 1 / 2 ^ (64 - 1 - n % 64)) d ≡ has_digit w (1 + (64 - 1 - n % 64 + d)) = λ d.
    has_digit-shr (w / 2 ^ 1) (64 - 1 - n % 64) d ∙ has_digit-shr w 1 (64 - 1 - n % 64 + d) in
    record {
      below = λ d h. absurd (omega arith);
      low = λ d l h.
          let word : (64 * j + d - n) / 64 ≡ k = omega arith in
          let place_in : (64 * j + d - n) % 64 ≡ 1 + (64 - 1 - n % 64 + d) = omega arith in
          let there : place others (64 * j + d - n) ≡ has_digit w (1 + (64 - 1 - n % 64 + d)) = rw (place_is others (64 * j + d - n), word, place_in) refl in
          digit d ∙ sym there;
      high = λ d h. digit d ∙ has_digit-above w 64 _ fits (omega arith);
    }

-- a word, shifted, with what is carried
pub IsLaid-word : (n : ℕ) (others : List ℕ) (k j carry : ℕ) → n / 64 + k ≡ j → Carries n others j carry
    → IsLaid n others j (bit_or (get_or others k 0 * 2 ^ (n % 64) % 2 ^ 64) carry)
IsLaid-word n others k j carry at c =
    let w : ℕ = get_or others k 0 in
    let digit : (d : ℕ) → has_digit (bit_or (w * 2 ^ (n % 64) % 2 ^ 64) carry) d ≡ (has_digit (w * 2 ^ (n % 64) % 2 ^ 64) d || has_digit carry d) = λ d.
    has_digit-or (w * 2 ^ (n % 64) % 2 ^ 64) carry d in
    record {
      below = λ d fits h. digit d ∙ rw (has_digit-shl_low w (n % 64) d (omega arith) fits, c.below d h) refl;
      above = λ d fits h. elim (cases_lt d (n % 64)) [
        | inl l ↦ digit d ∙ rw (has_digit-shl_low w (n % 64) d l fits) (c.low d l h)
        | inr m ↦
            let word : (64 * j + d - n) / 64 ≡ k = omega arith in
            let place_in : (64 * j + d - n) % 64 ≡ d - n % 64 = omega arith in
            let here : (has_digit (w * 2 ^ (n % 64) % 2 ^ 64) d || has_digit carry d) ≡ has_digit w (d - n % 64) =
            rw (c.high d m, has_digit-shl_high w (n % 64) d m fits) (or-false (has_digit w (d - n % 64))) in
            let there : place others (64 * j + d - n) ≡ has_digit w (d - n % 64) = rw (place_is others (64 * j + d - n), word, place_in) refl in
            digit d ∙ here ∙ sym there
      ];
    }

-- behind the last word what is carried alone
pub IsLaid-carry : (n : ℕ) (others : List ℕ) (j carry : ℕ) → n / 64 + length others ≡ j → Carries n others j carry → IsLaid n others j carry
IsLaid-carry n others j carry at c = record {
  below = λ d fits h. c.below d h;
  above = λ d fits h. elim (cases_lt d (n % 64)) [
    | inl l ↦ c.low d l h
    | inr m ↦ c.high d m ∙ sym (place-past others (64 * j + d - n) (omega arith))
  ];
}

-- ---- a list with false places behind it
pub lengthened : (xs : List Bool) (n m len : ℕ) → n ≡ length xs → len ≡ n + m → take len xs ++ replicate (len - length xs) false ≡ xs ++ replicate m false
lengthened xs n m len long sum =
    let more : len - length xs ≡ m = omega (arith, long, sum) in
    rw (more, take_all len xs (omega (arith, long, sum))) refl

pub lengthened_by : (k n m : ℕ) (ws : List ℕ) (xs : List Bool) → bits_of k ws ≡ xs ++ replicate m false → n ≡ length xs → k ≡ n + m
lengthened_by k n m ws xs v long = omega (arith, sym (length-bits_of k ws) ∙ ap length v, length-append xs (replicate m false), length-replicate m false, long)

-- ---- the list, where the places laid over were false
module _ (n m k : ℕ) (old others new : List ℕ) (xs ys : List Bool) (sum : k ≡ n + m) (p : IsPacked k old) (q : IsPacked m others)
    (v : bits_of k old ≡ xs ++ replicate m false) (w : bits_of m others ≡ ys) (long : length xs ≡ n)
    (o : Overlays n others old new (64 * length old)) where
  place-kept : (i : ℕ) → i < n → place old i ≡ get_or xs i false
  place-kept i below =
      sym (get_or-bits_of k old i false (omega (arith, sum))) ∙ ap (λ bs. get_or bs i false) v ∙ get_or_append_left xs (replicate m false) false i (omega (arith, sum, long))

  place-free : (i : ℕ) → n ≤ i → place old i ≡ false
  place-free i past = elim (cases_lt i k) [
    | inl l ↦
        sym (get_or-bits_of k old i false l) ∙ ap (λ bs. get_or bs i false) v
        ∙ get_or-append_right xs (replicate m false) n i false long past ∙ get_or-replicate m (i - n) false false (omega (arith, sum))
    | inr l ↦ p.padding i l
  ]

  place-overlaid : (i : ℕ) → n ≤ i → place new i ≡ place others (i - n)
  place-overlaid i past = elim (cases_lt i (64 * length old)) [
    | inl l ↦ o.laid i past l ∙ rw (place-free i past) refl
    | inr l ↦ place-past new i (omega (arith, o.count)) ∙ sym (q.padding (i - n) (omega (arith, sum, p.count)))
  ]

  pub IsPacked-overlaid : IsPacked k new
  IsPacked-overlaid = record { count = o.count ∙ p.count; padding = λ i past. place-overlaid i (omega (arith, sum)) ∙ q.padding (i - n) (omega (arith, sum)) }

  pub bits_of-overlaid : bits_of k new ≡ xs ++ ys
  bits_of-overlaid =
      let ys_long : length ys ≡ m = sym (ap length w) ∙ length-bits_of m others in
      bits_of_is k new (xs ++ ys) (omega (arith, sum, length-append xs ys, long, ys_long)) (λ i below. elim (cases_lt i n) [
        | inl l ↦ o.before i l ∙ place-kept i l ∙ sym (get_or_append_left xs ys false i (omega (arith, sum, long)))
        | inr l ↦
            place-overlaid i l
            ∙ sym (get_or-append_right xs ys n i false long l ∙ ap (λ bs. get_or bs (i - n) false) (sym w) ∙ get_or-bits_of m others (i - n) false (omega (arith, sum)))
      ])
