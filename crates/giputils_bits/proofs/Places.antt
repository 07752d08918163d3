-- Places of words, and lists kept in words.
use mir.Val.{bool_byte}
use Rattle.std.proofs.Common.{◌≡◌, ◌≢◌, ℕ, suc, ◌+◌, ◌-◌, ◌*◌, ◌/◌, ◌%◌, ◌^◌, ◌<◌, ◌≤◌, Bool, true, false, eqb, List, [], ◌∷◌, ◌++◌, length, get_or, set, refl, sym, ap, ◌∙◌, arith, inl, inr, w64}
use Rattle.std.specs.Prelude.{bit_and, bit_or}
use Rattle.std.specs.Int.{bit_not}
use Rattle.std.proofs.lemmas.List.{same_lists, length-set, get_or-set_same, get_or-set_other, get_or_default, get_or_append_left, get_or_push, length_push, get_or_past}
use Rattle.std.proofs.lemmas.List.FromFn.{length-map-range_with_len, get_or-map-range_with_len, map-range_with_len_more}
use Rattle.std.proofs.lemmas.Nat.Bits.{bit_at_set_same, bit_at_set_other, bit_at_clear_same, bit_at_clear_other, shr_and_one}
use Rattle.std.proofs.lemmas.Bool.{cases_eq, cases_lt}
use Rattle.std.proofs.Math.Bool.{or-false}
use Rattle.std.specs.Int.Bits.{or_zero_l}
use Rattle.giputils_bits.specs.Prelude.{HasRoom, IsPacked, SetsDigit, bits_of, digits_of, has_digit, place, places}
use Rattle.giputils_bits.proofs.Digits.{has_digit-zero, has_digit-or, has_digit-above, length-digits_of, get_or-digits_of}

-- ---- one place
pub place_is : (ws : List ℕ) (i : ℕ) → place ws i ≡ has_digit (get_or ws (i / 64) 0) (i % 64)
unfolding place
place_is ws i = refl

pub place-past : (ws : List ℕ) (i : ℕ) → 64 * length ws ≤ i → place ws i ≡ false
place-past ws i past = rw (place_is ws i, get_or_past ws (i / 64) 0 (omega arith)) (has_digit-zero (i % 64))

-- `(words[i / 64] >> (i % 64)) & 1 == 1`
pub place-reads : (ws : List ℕ) (i : ℕ) → eqb (bit_and (get_or ws (i / 64) 0 / 2 ^ (i % 64)) 1) 1 ≡ place ws i
unfolding place
place-reads ws i = ap (λ b. eqb b 1) (shr_and_one (get_or ws (i / 64) 0) (i % 64))

-- places of one word
place-one : (w i : ℕ) → i < 64 → place (w ∷ []) i ≡ has_digit w i
place-one w i below =
    let first : i / 64 ≡ 0 = omega arith in
    let digit : i % 64 ≡ i = omega arith in
    rw (place_is (w ∷ []) i, first, digit) refl

pub place-word : (w i : ℕ) → w < 2 ^ 64 → place (w ∷ []) i ≡ has_digit w i
place-word w i fits = elim (cases_lt i 64) [
  | inl below ↦ place-one w i below
  | inr past ↦ place-past (w ∷ []) i past ∙ sym (has_digit-above w 64 i fits past)
]

-- ---- places as a list
pub length-places : (ws : List ℕ) (start n : ℕ) → length (places ws start n) ≡ n
unfolding places
length-places ws start n = length-map-range_with_len (place ws) start n

pub get_or-places : (ws : List ℕ) (start n i j : ℕ) (d : Bool) → i < n → start + i ≡ j → get_or (places ws start n) i d ≡ place ws j
unfolding places
get_or-places ws start n i j d below at = get_or-map-range_with_len (place ws) start n i j d below at

-- the first of the places
pub places-first : (ws : List ℕ) (start n : ℕ) → places ws start (n + 1) ≡ place ws start ∷ places ws (start + 1) n
unfolding places
places-first ws start n = let e : n + 1 ≡ suc n = omega arith in rw e refl

-- the last of the places
pub places-last : (ws : List ℕ) (start n : ℕ) → places ws start (n + 1) ≡ places ws start n ++ place ws (start + n) ∷ []
unfolding places
places-last ws start n = map-range_with_len_more (place ws) start n (start + n) refl

pub places-none : (ws : List ℕ) (start : ℕ) → places ws start 0 ≡ []
unfolding places
places-none ws start = refl

-- a list is kept in words, if it is place by place
pub bits_of_is : (n : ℕ) (ws : List ℕ) (bs : List Bool) → length bs ≡ n → ((i : ℕ) → i < n → place ws i ≡ get_or bs i false) → bits_of n ws ≡ bs
bits_of_is n ws bs long same = same_lists _ _ (length-places ws 0 n ∙ sym long) (λ k d l.
    let below : k < n = omega (arith, length-places ws 0 n) in
    get_or-places ws 0 n k k d below (omega arith) ∙ same k below ∙ get_or_default bs k false d (omega arith))

pub length-bits_of : (n : ℕ) (ws : List ℕ) → length (bits_of n ws) ≡ n
length-bits_of n ws = length-places ws 0 n

pub get_or-bits_of : (n : ℕ) (ws : List ℕ) (i : ℕ) (d : Bool) → i < n → get_or (bits_of n ws) i d ≡ place ws i
get_or-bits_of n ws i d below = get_or-places ws 0 n i i d below (omega arith)

-- each place of words, also past the bits that are kept
pub get_or-bits_of_all : (n : ℕ) (ws : List ℕ) → ((i : ℕ) → n ≤ i → place ws i ≡ false) → (i : ℕ) → get_or (bits_of n ws) i false ≡ place ws i
get_or-bits_of_all n ws padding i = elim (cases_lt i n) [
  | inl l ↦ get_or-bits_of n ws i false l
  | inr l ↦ get_or_past (bits_of n ws) i false (omega (arith, length-bits_of n ws)) ∙ sym (padding i l)
]

-- the length of a list that is kept
pub kept-length : (n : ℕ) (ws : List ℕ) (bs : List Bool) → bits_of n ws ≡ bs → n ≡ length bs
kept-length n ws bs e = sym (length-bits_of n ws) ∙ ap length e

-- one word keeps its digits
pub bits_of-word : (n w : ℕ) → n ≤ 64 → bits_of n (w ∷ []) ≡ digits_of n w
bits_of-word n w short = bits_of_is n (w ∷ []) _ (length-digits_of n w) (λ i below. place-one w i (omega arith) ∙ sym (get_or-digits_of n w i false below))

pub IsPacked-word : (n w : ℕ) → n ≤ 64 → w < 2 ^ n → w < 2 ^ 64 → IsPacked n (w ∷ [])
IsPacked-word n w short small fits = record {
  count = omega arith;
  padding = λ i past. place-word w i fits ∙ has_digit-above w n i small past;
}

-- ---- a digit of a word, and a place of the words
pub SetsDigit-or : (w k : ℕ) → k < 64 → SetsDigit w (bit_or w (1 * 2 ^ k % 2 ^ 64)) k true
SetsDigit-or w k within = record {
  at = ap (λ b. eqb b 1) (bit_at_set_same w64 w k within);
  others = λ j l other. ap (λ b. eqb b 1) (bit_at_set_other w64 w k within j other);
}

pub SetsDigit-and : (w k : ℕ) → k < 64 → SetsDigit w (bit_and w (bit_not w64 (1 * 2 ^ k % 2 ^ 64))) k false
SetsDigit-and w k within = record {
  at = ap (λ b. eqb b 1) (bit_at_clear_same w64 w k within);
  others = λ j l other. ap (λ b. eqb b 1) (bit_at_clear_other w64 w k within j l other);
}

-- a digit that is 0 so far, joined to the word
pub SetsDigit-join : (w d k : ℕ) (b : Bool) → has_digit w k ≡ false → SetsDigit 0 d k b → SetsDigit w (bit_or w d) k b
SetsDigit-join w d k b none s = record {
  at = rw (has_digit-or w d k, none) s.at;
  others = λ j l other. rw (has_digit-or w d j, s.others j l other, has_digit-zero j) (or-false (has_digit w j));
}

-- `u64::from(val) << k`
pub SetsDigit-one : (k one : ℕ) (b : Bool) → one ≡ bool_byte b → k < 64 → SetsDigit 0 (one * 2 ^ k % 2 ^ 64) k b
SetsDigit-one k one true e within = let is : one ≡ 1 = e in rw (is, ← or_zero_l (1 * 2 ^ k % 2 ^ 64)) (SetsDigit-or 0 k within)
SetsDigit-one k one false e within =
    let is : one ≡ 0 = e in
    let none : 0 * 2 ^ k % 2 ^ 64 ≡ 0 = omega arith in
    rw (is, none) (record { at = has_digit-zero k; others = λ j _ _. refl })

-- place i of the words becomes b, and no other changes
pub record SetsPlace (old new : List ℕ) (i : ℕ) (b : Bool) : Type 0 where
  pub count : length new ≡ length old
  pub at : place new i ≡ b
  pub others : (j : ℕ) → j ≢ i → place new j ≡ place old j

-- a word put back with a digit set sets a place
pub SetsPlace-set : (ws : List ℕ) (i w : ℕ) (b : Bool) → i / 64 < length ws → SetsDigit (get_or ws (i / 64) 0) w (i % 64) b → SetsPlace ws (set ws (i / 64) w) i b
unfolding place
SetsPlace-set ws i w b within s = record {
  count = length-set ws (i / 64) w;
  at = rw (get_or-set_same ws (i / 64) w 0 within) s.at;
  others = λ j other. elim (cases_eq (j / 64) (i / 64)) [
    | inl e ↦ rw (e, get_or-set_same ws (i / 64) w 0 within) (s.others (j % 64) (omega arith) (λ m. other (omega arith)))
    | inr m ↦ rw (get_or-set_other ws (i / 64) (j / 64) w 0 m) refl
  ];
}

-- and so an element of the list
pub bits_of-SetsPlace : (n : ℕ) (old new : List ℕ) (i : ℕ) (b : Bool) → i < n → SetsPlace old new i b → bits_of n new ≡ set (bits_of n old) i b
bits_of-SetsPlace n old new i b within s =
    bits_of_is n new _ (length-set _ i b ∙ length-bits_of n old) (λ j l. elim (cases_eq j i) [
      | inl e ↦ rw e (s.at ∙ sym (get_or-set_same (bits_of n old) i b false (omega (arith, length-bits_of n old))))
      | inr m ↦ s.others j m ∙ sym (get_or-set_other (bits_of n old) i j b false m ∙ get_or-bits_of n old j false l)
    ])

pub IsPacked-SetsPlace : (n : ℕ) (old new : List ℕ) (i : ℕ) (b : Bool) → i < n → SetsPlace old new i b → IsPacked n old → IsPacked n new
IsPacked-SetsPlace n old new i b within s p = record {
  count = s.count ∙ p.count;
  padding = λ j l. s.others j (λ e. omega arith) ∙ p.padding j l;
}

-- ---- a place more
-- a word of zeros behind the others leaves each place
place-zeros_behind : (ws : List ℕ) (i : ℕ) → place (ws ++ 0 ∷ []) i ≡ place ws i
place-zeros_behind ws i = elim (cases_lt (i / 64) (length ws)) [
  | inl l ↦ rw (place_is (ws ++ 0 ∷ []) i, get_or_append_left ws (0 ∷ []) 0 (i / 64) l) (sym (place_is ws i))
  | inr m ↦ elim (cases_eq (i / 64) (length ws)) [
    | inl e ↦ rw (place_is (ws ++ 0 ∷ []) i, get_or_push ws 0 0 (i / 64) (sym e)) (has_digit-zero (i % 64) ∙ sym (place-past ws i (omega arith)))
    | inr o ↦ place-past (ws ++ 0 ∷ []) i (omega (arith, length_push ws 0)) ∙ sym (place-past ws i (omega arith))
  ]
]

pub HasRoom-push : (n : ℕ) (ws : List ℕ) → n % 64 ≡ 0 → 0 < n → IsPacked n ws → HasRoom n ws (ws ++ 0 ∷ [])
HasRoom-push n ws full some p = record { count = omega (arith, length_push ws 0, p.count); same = place-zeros_behind ws }

-- a digit joined to the word that place n stands in
pub SetsPlace-join : (n : ℕ) (old room : List ℕ) (d : ℕ) (b : Bool) → n / 64 < length room → IsPacked n old → HasRoom n old room → SetsDigit 0 d (n % 64) b
    → SetsPlace room (set room (n / 64) (bit_or (get_or room (n / 64) 0) d)) n b
SetsPlace-join n old room d b within p r s =
    let none : has_digit (get_or room (n / 64) 0) (n % 64) ≡ false = sym (place_is room n) ∙ r.same n ∙ p.padding n (omega arith) in
    SetsPlace-set room n _ b within (SetsDigit-join _ d _ b none s)

pub IsPacked-more : (n : ℕ) (old room new : List ℕ) (b : Bool) → IsPacked n old → HasRoom n old room → SetsPlace room new n b → IsPacked (n + 1) new
IsPacked-more n old room new b p r s = record {
  count = s.count ∙ r.count ∙ omega arith;
  padding = λ j l. s.others j (λ q. omega arith) ∙ r.same j ∙ p.padding j (omega arith);
}

pub bits_of-more : (n : ℕ) (old room new : List ℕ) (b : Bool) → HasRoom n old room → SetsPlace room new n b → bits_of (n + 1) new ≡ bits_of n old ++ b ∷ []
bits_of-more n old room new b r s =
    bits_of_is (n + 1) new _ (length_push (bits_of n old) b ∙ ap (λ k. k + 1) (length-bits_of n old)) (λ j l. elim (cases_eq j n) [
      | inl e ↦ rw e (s.at ∙ sym (get_or_push (bits_of n old) b false n (length-bits_of n old)))
      | inr m ↦ s.others j m ∙ r.same j ∙ sym (get_or_append_left (bits_of n old) (b ∷ []) false j (omega (arith, length-bits_of n old)) ∙ get_or-bits_of n old j false (omega arith))
    ])

-- ---- an iterator over the places from `start` to `end`
pub places-next : (ws : List ℕ) (start end : ℕ) → start < end → places ws start (end - start) ≡ place ws start ∷ places ws (start + 1) (end - (start + 1))
places-next ws start end some = let one_more : end - start ≡ end - (start + 1) + 1 = omega arith in rw one_more (places-first ws start (end - (start + 1)))

pub places-next_back : (ws : List ℕ) (start end : ℕ) → start < end → places ws start (end - start) ≡ places ws start (end - 1 - start) ++ place ws (end - 1) ∷ []
places-next_back ws start end some =
    let one_more : end - start ≡ end - 1 - start + 1 = omega arith in
    let last : start + (end - 1 - start) ≡ end - 1 = omega arith in
    rw one_more (places-last ws start (end - 1 - start) ∙ ap (λ i. places ws start (end - 1 - start) ++ place ws i ∷ []) last)

pub places-end : (ws : List ℕ) (start end : ℕ) → start ≡ end → places ws start (end - start) ≡ []
places-end ws start end e = let left : end - start ≡ 0 = omega arith in rw left (places-none ws start)
