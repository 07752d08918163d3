-- A range of places of words: written, and counted.
use Rattle.std.proofs.Common.{◌≡◌, ◌≢◌, ℕ, ◌+◌, ◌-◌, ◌*◌, ◌/◌, ◌%◌, ◌^◌, ◌<◌, ◌≤◌, min, cond, Bool, true, false, not, ◌&&◌, ◌||◌, List, ◌++◌, length, replicate, take, drop, get_or, set, refl, sym, ap, ◌∙◌, arith, inl, inr}
use Rattle.std.specs.Prelude.{bit_and, bit_or, count_ones}
use Rattle.std.proofs.Math.Bool.{and-true, and-false, or-false, or-true}
use Rattle.std.proofs.lemmas.Bool.{cases_eq, cases_lt}
use Rattle.std.proofs.lemmas.List.{length-set, length-append, length-replicate, length-take, length-drop, get_or_append_left, get_or-append_right, get_or-replicate, get_or-take, get_or-drop, get_or_past, take_all, take-append-le, take-replicate}
use Rattle.std.proofs.lemmas.Nat.{and_le_l}
use Rattle.std.proofs.lemmas.List.Folds.{sum_by-replicate}
use Rattle.std.proofs.lemmas.List.Sums.{sum_by-append}
use Rattle.giputils_bits.specs.Prelude.{IsPacked, SetsDigits, SetsRange, bits_of, digits_before, digits_between, has_digit, place, true_count, without_digits, word_count, word_of}
use Rattle.giputils_bits.proofs.Digits.{has_digit-and, has_digit-or, has_digit-ones, has_digit-ones_above}
use Rattle.giputils_bits.proofs.Ones.{true_count-word_more}
use Rattle.giputils_bits.proofs.Places.{place_is, length-bits_of, get_or-bits_of_all, bits_of_is}
use Rattle.giputils_bits.proofs.Rewritten.{has_digit-without}
use Rattle.giputils_bits.proofs.Shifted.{place-put, place-elsewhere}
use Rattle.giputils_bits.proofs.Words.{word_of_is}

-- ---- the digits of a range
before_end : (k n d : ℕ) → d < 64 → 64 * k + d < n → has_digit (digits_before k n) d ≡ true
before_end k n d within l = has_digit-ones (min (n - 64 * k) 64) d (omega arith)

past_end : (k n d : ℕ) → n ≤ 64 * k + d → has_digit (digits_before k n) d ≡ false
past_end k n d past = has_digit-ones_above (min (n - 64 * k) 64) d (omega arith)

module _ (k start end d : ℕ) where
  digit_between : d < 64 → start ≤ 64 * k + d → 64 * k + d < end → has_digit (digits_between k start end) d ≡ true
  digit_between within h l =
      has_digit-without (digits_before k end) (digits_before k start) d
      ∙ ap (λ b. has_digit (digits_before k end) d && not b) (past_end k start d h) ∙ and-true _ ∙ before_end k end d within l

  no_digit_before : d < 64 → 64 * k + d < start → has_digit (digits_between k start end) d ≡ false
  no_digit_before within l =
      has_digit-without (digits_before k end) (digits_before k start) d
      ∙ ap (λ b. has_digit (digits_before k end) d && not b) (before_end k start d within l) ∙ and-false _

  no_digit_behind : end ≤ 64 * k + d → has_digit (digits_between k start end) d ≡ false
  no_digit_behind past =
      has_digit-without (digits_before k end) (digits_before k start) d
      ∙ ap (λ b. b && not (has_digit (digits_before k start) d)) (past_end k end d past)

pub SetsDigits-or : (w digits : ℕ) → SetsDigits w (bit_or w digits) digits true
SetsDigits-or w digits = record {
  at = λ k e. has_digit-or w digits k ∙ ap (λ b. has_digit w k || b) e ∙ or-true _;
  others = λ k e. has_digit-or w digits k ∙ ap (λ b. has_digit w k || b) e ∙ or-false _;
}

pub SetsDigits-without : (w digits : ℕ) → SetsDigits w (without_digits w digits) digits false
SetsDigits-without w digits = record {
  at = λ k e. has_digit-without w digits k ∙ ap (λ b. has_digit w k && not b) e ∙ and-false _;
  others = λ k e. has_digit-without w digits k ∙ ap (λ b. has_digit w k && not b) e ∙ and-true _;
}

-- ---- the places of a range, written word by word
pub SetsRange-none : (start end : ℕ) (b : Bool) (ws : List ℕ) → SetsRange start end b ws ws (64 * (start / 64))
SetsRange-none start end b ws = record {
  count = refl;
  inside = λ i h l m. absurd (omega arith);
  before = λ i l. refl;
  behind = λ i h. refl;
  rest = λ i h. refl;
}

pub SetsRange-more : (start end : ℕ) (b : Bool) (old mid : List ℕ) (k w : ℕ) → k < length mid → SetsDigits (get_or mid k 0) w (digits_between k start end) b
    → SetsRange start end b old mid (64 * k) → SetsRange start end b old (set mid k w) (64 * (k + 1))
SetsRange-more start end b old mid k w within digits s =
    let kept : (i : ℕ) → i / 64 ≡ k → has_digit (digits_between k start end) (i % 64) ≡ false → place (set mid k w) i ≡ place mid i = λ i e none.
    place-put mid k w within i e ∙ digits.others (i % 64) none ∙ sym (rw (place_is mid i, e) refl) in
    record {
      count = length-set mid k w ∙ s.count;
      inside = λ i h l m. elim (cases_eq (i / 64) k) [
        | inl e ↦ place-put mid k w within i e ∙ digits.at (i % 64) (digit_between k start end (i % 64) (omega arith) (omega arith) (omega arith))
        | inr other ↦ place-elsewhere mid k w within i other ∙ s.inside i h l (omega arith)
      ];
      before = λ i l. elim (cases_eq (i / 64) k) [
        | inl e ↦ kept i e (no_digit_before k start end (i % 64) (omega arith) (omega arith)) ∙ s.before i l
        | inr other ↦ place-elsewhere mid k w within i other ∙ s.before i l
      ];
      behind = λ i h. elim (cases_eq (i / 64) k) [
        | inl e ↦ kept i e (no_digit_behind k start end (i % 64) (omega arith)) ∙ s.behind i h
        | inr other ↦ place-elsewhere mid k w within i other ∙ s.behind i h
      ];
      rest = λ i h. place-elsewhere mid k w within i (λ e. omega arith) ∙ s.rest i (omega arith);
    }

pub SetsRange-all : (start end : ℕ) (b : Bool) (old new : List ℕ) (k : ℕ) → word_count end ≤ k → SetsRange start end b old new (64 * k) → SetsRange start end b old new end
SetsRange-all start end b old new k all s = record {
  count = s.count;
  inside = λ i h l m. s.inside i h l (omega arith);
  before = s.before;
  behind = s.behind;
  rest = s.behind;
}

module _ (n : ℕ) (old new : List ℕ) (bs : List Bool) (start end : ℕ) (b : Bool) (v : bits_of n old ≡ bs)
    (p : IsPacked n old) (ordered : start ≤ end) (inside : end ≤ n) (s : SetsRange start end b old new end) where
  pub IsPacked-ranged : IsPacked n new
  IsPacked-ranged = record {
    count = s.count ∙ p.count;
    padding = λ i past. s.behind i (omega arith) ∙ p.padding i past;
  }

  pub bits_of-ranged : bits_of n new ≡ take start bs ++ (replicate (end - start) b ++ drop end bs)
  bits_of-ranged =
      let long : length bs ≡ n = sym (ap length v) ∙ length-bits_of n old in
      let at : (i : ℕ) → get_or bs i false ≡ place old i = λ i. ap (λ xs. get_or xs i false) (sym v) ∙ get_or-bits_of_all n old p.padding i in
      let front : length (take start bs) ≡ start = omega (arith, length-take start bs, long) in
      bits_of_is n new _ (omega (
        arith,
        length-append (take start bs) (replicate (end - start) b ++ drop end bs),
        length-append (replicate (end - start) b) (drop end bs),
        length-replicate (end - start) b,
        length-drop end bs,
        front,
        long,
      )) (λ i below. elim (cases_lt i start) [
        | inl l ↦ s.before i l ∙ sym (get_or_append_left (take start bs) _ false i (omega (arith, front)) ∙ get_or-take start bs i false l ∙ at i)
        | inr h ↦ elim (cases_lt i end) [
          | inl l ↦ s.inside i h l l
              ∙ sym (get_or-append_right (take start bs) _ start i false front h
              ∙ get_or_append_left (replicate (end - start) b) _ false (i - start) (omega (arith, length-replicate (end - start) b))
              ∙ get_or-replicate (end - start) (i - start) b false (omega arith))
          | inr past ↦
              let back : end + (i - start - (end - start)) ≡ i = omega arith in
              s.behind i past
              ∙ sym (get_or-append_right (take start bs) _ start i false front h
              ∙ get_or-append_right (replicate (end - start) b) _ (end - start) (i - start) false (length-replicate (end - start) b) (omega arith)
              ∙ get_or-drop end bs (i - start - (end - start)) false ∙ ap (λ j. get_or bs j false) back ∙ at i)
        ]
      ])

-- ---- the true places of a range, counted word by word
-- the places of the range, behind false ones
abbrev pub alone : List Bool → ℕ → ℕ → List Bool
alone bs start end = replicate start false ++ take (end - start) (drop start bs)

module _ (n : ℕ) (ws : List ℕ) (bs : List Bool) (start end : ℕ) (v : bits_of n ws ≡ bs) (p : IsPacked n ws) (ordered : start ≤ end) (inside : end ≤ length bs) where
  pub length-alone : length (alone bs start end) ≡ end
  length-alone = omega (
    arith,
    length-append (replicate start false) (take (end - start) (drop start bs)),
    length-replicate start false,
    length-take (end - start) (drop start bs),
    length-drop start bs,
  )

  alone_inside : (i : ℕ) → start ≤ i → i < end → get_or (alone bs start end) i false ≡ place ws i
  alone_inside i h l =
      let back : start + (i - start) ≡ i = omega arith in
      get_or-append_right (replicate start false) _ start i false (length-replicate start false) h
      ∙ get_or-take (end - start) (drop start bs) (i - start) false (omega arith)
      ∙ get_or-drop start bs (i - start) false ∙ ap (λ j. get_or bs j false) back
      ∙ ap (λ xs. get_or xs i false) (sym v) ∙ get_or-bits_of_all n ws p.padding i

  alone_before : (i : ℕ) → i < start → get_or (alone bs start end) i false ≡ false
  alone_before i l = get_or_append_left (replicate start false) _ false i (omega (arith, length-replicate start false)) ∙ get_or-replicate start i false false l

  -- a word without its digits outside the range
  word_of-alone : (k : ℕ) → get_or ws k 0 < 2 ^ 64 → bit_and (get_or ws k 0) (digits_between k start end) ≡ word_of (alone bs start end) k
  word_of-alone k fits =
      let w : ℕ = get_or ws k 0 in
      word_of_is _ k (alone bs start end) (omega (arith, fits, and_le_l w (digits_between k start end))) (λ d within.
      let word : (64 * k + d) / 64 ≡ k = omega arith in
      let digit : (64 * k + d) % 64 ≡ d = omega arith in
      has_digit-and w (digits_between k start end) d ∙ elim (cases_lt (64 * k + d) start) [
        | inl l ↦ ap (λ b. has_digit w d && b) (no_digit_before k start end d within l) ∙ and-false _ ∙ sym (alone_before (64 * k + d) l)
        | inr h ↦ elim (cases_lt (64 * k + d) end) [
          | inl l ↦ ap (λ b. has_digit w d && b) (digit_between k start end d within h l) ∙ and-true _
              ∙ sym (alone_inside (64 * k + d) h l ∙ rw (place_is ws (64 * k + d), word, digit) refl)
          | inr past ↦ ap (λ b. has_digit w d && b) (no_digit_behind k start end d past) ∙ and-false _
              ∙ sym (get_or_past (alone bs start end) (64 * k + d) false (omega (arith, length-alone)))
        ]
      ])

  none_counted : (m : ℕ) → true_count (replicate m false) ≡ 0
  none_counted m = let none : m * 0 ≡ 0 = omega arith in sum_by-replicate (λ b. cond b 1 0) m false ∙ none

  -- none before the first word of the range
  pub range_first : 0 ≡ true_count (take (64 * (start / 64)) (alone bs start end))
  range_first =
      let front : take (64 * (start / 64)) (alone bs start end) ≡ replicate (64 * (start / 64)) false =
      take-append-le (64 * (start / 64)) (replicate start false) _ (omega (arith, length-replicate start false)) ∙ take-replicate (64 * (start / 64)) start false (omega arith) in
      sym (ap true_count front ∙ none_counted (64 * (start / 64)))

  -- the ones of a word more
  pub range_more : (k count : ℕ) → get_or ws k 0 < 2 ^ 64 → count ≡ true_count (take (64 * k) (alone bs start end))
      → count + count_ones (bit_and (get_or ws k 0) (digits_between k start end)) ≡ true_count (take (64 * (k + 1)) (alone bs start end))
  range_more k count fits so_far = rw (so_far, word_of-alone k fits) (sym (true_count-word_more (alone bs start end) k))

  -- all of them
  pub range_all : (k : ℕ) → word_count end ≤ k → true_count (take (64 * k) (alone bs start end)) ≡ true_count (take (end - start) (drop start bs))
  range_all k all =
      ap true_count (take_all (64 * k) (alone bs start end) (omega (arith, length-alone)))
      ∙ sum_by-append _ (replicate start false) (take (end - start) (drop start bs))
      ∙ ap (λ m. m + true_count (take (end - start) (drop start bs))) (none_counted start) ∙ omega arith
