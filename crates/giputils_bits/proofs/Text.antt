-- Digits of numbers, and the texts of lists that are kept in words.
--
-- How it is proved: digits of a number from words. Recurse on the lowest digit, and split at any place. Define powers
-- by recursion (`power`): `b ^ n` with a variable does not compute.
use Rattle.std.proofs.Common.{◌≡◌, ◌≢◌, ℕ, zero, suc, ◌+◌, ◌-◌, ◌*◌, ◌/◌, ◌%◌, ◌^◌, ◌<◌, ◌≤◌, Bool, true, false, eqb, cond, nat_lt, List, [], ◌∷◌, ◌++◌, map, reverse, length, take, drop, get_or, set, replicate, codes, refl, sym, ap, ◌∙◌, arith, inl, inr}
use Rattle.std.specs.Prelude.{◌==◌}
use Rattle.std.specs.Fmt.{digit_glyph, digits, digits_onto}
use Rattle.std.specs.Str.{IsAscii}
use Rattle.std.proofs.Math.Nat.{mul_assoc, pow-suc}
use Rattle.std.proofs.lemmas.Bool.{cases_eq, cases_lt, cases_Bool}
use Rattle.std.proofs.lemmas.Bool.Decides.{Decides-eqb}
use Rattle.std.proofs.lemmas.List.{same_lists, append_assoc, append-nil, map-append, reverse-append, reverse-reverse, length-reverse, length-map, length-append, get_or-set_same, get_or-set_other, get_or-map, get_or_append_left, get_or-append_right, get_or_past, get_or_default, get_or-take, length-take, length-take-le, length-drop, take_more, take_all}
use Rattle.giputils_bits.specs.Prelude.{BinaryTextsTell, binary_text, bit_glyph, digits_of, digits_of_words, hex_count, hex_text, lowest_digits, value_of, word_count, word_of, words_of}
use Rattle.giputils_bits.proofs.Digits.{digits_of-value_of, digits_of-zero, value_half}
use Rattle.giputils_bits.proofs.Patterns.{value_of-zeros}
use Rattle.giputils_bits.proofs.Words.{length-words_of, get_or-words_of}

-- ---- a test on a number
not_equal : (n : ℕ) → n ≢ 0 → (n == 0) ≡ false
not_equal n some = elim (cases_Bool (n == 0)) [
  | inl equal ↦ absurd (some ((Decides-eqb n 0).0 equal))
  | inr other ↦ other
]

-- ---- the digits of a number
-- the number without its n lowest digits
abbrev pub without_lowest : ℕ → ℕ → ℕ → ℕ
without_lowest b zero x = x
without_lowest b (suc n) x = without_lowest b n (x / b)

pub without_lowest-suc : (b n x : ℕ) → without_lowest b (suc n) x ≡ without_lowest b n x / b
without_lowest-suc b zero x = refl
without_lowest-suc b (suc n) x = without_lowest-suc b n (x / b)

pub without_lowest-more : (b n x : ℕ) → without_lowest b (n + 1) x ≡ without_lowest b n x / b
without_lowest-more b n x = let one_more : n + 1 ≡ suc n = omega arith in rw one_more (without_lowest-suc b n x)

pub length-lowest : (b n x : ℕ) → length (lowest_digits b n x) ≡ n
length-lowest b zero x = refl
length-lowest b (suc n) x = omega (arith, length-append (lowest_digits b n (x / b)) (x % b ∷ []), length-lowest b n (x / b))

pub lowest-split : (b m n x : ℕ) → lowest_digits b (m + n) x ≡ lowest_digits b m (without_lowest b n x) ++ lowest_digits b n x
lowest-split b m zero x = let all : m + 0 ≡ m = omega arith in rw all (sym (append-nil (lowest_digits b m x)))
lowest-split b m (suc n) x =
    let more : m + suc n ≡ suc (m + n) = omega arith in
    rw more (ap (λ ds. ds ++ x % b ∷ []) (lowest-split b m n (x / b)) ∙ append_assoc (lowest_digits b m (without_lowest b n (x / b))) (lowest_digits b n (x / b)) (x % b ∷ []))

pub get_or-lowest : (b n x i : ℕ) → i < n → get_or (lowest_digits b n x) i 0 ≡ without_lowest b (n - 1 - i) x % b
get_or-lowest b zero x i below = absurd (omega arith)
get_or-lowest b (suc n) x i below = elim (cases_lt i n) [
  | inl within ↦
      let at : suc n - 1 - i ≡ suc (n - 1 - i) = omega arith in
      rw at (get_or_append_left (lowest_digits b n (x / b)) (x % b ∷ []) 0 i (omega (arith, length-lowest b n (x / b))) ∙ get_or-lowest b n (x / b) i within)
  | inr past ↦
      let at : suc n - 1 - i ≡ 0 = omega arith in
      let none : i - n ≡ 0 = omega arith in
      rw at (get_or-append_right (lowest_digits b n (x / b)) (x % b ∷ []) n i 0 (length-lowest b n (x / b)) past ∙ rw none refl)
]

-- ---- what is spelt into a buffer
pub spelt_is : (b n x : ℕ) (glyphs : ℕ → ℕ) (bs : List ℕ) → n ≤ length bs
    → ((j : ℕ) → j < n → get_or bs (n - 1 - j) 0 ≡ glyphs (without_lowest b j x % b)) → take n bs ≡ map glyphs (lowest_digits b n x)
spelt_is b n x glyphs bs long each = same_lists _ _ (length-take-le n bs long ∙ sym (length-map (lowest_digits b n x) glyphs ∙ length-lowest b n x)) (λ k d l.
    let within : k < n = omega (arith, length-take-le n bs long) in
    let back : n - 1 - (n - 1 - k) ≡ k = omega arith in
    get_or-take n bs k d within
    ∙ get_or_default bs k d 0 (omega arith)
    ∙ rw back at (each (n - 1 - k) (omega arith))
    ∙ sym (get_or-map glyphs (lowest_digits b n x) k 0 d (omega (arith, length-lowest b n x)) ∙ ap glyphs (get_or-lowest b n x k within)))

-- one digit more
pub spelt_more : (b n x : ℕ) (glyphs : ℕ → ℕ) (bs : List ℕ) (k g : ℕ) → k < n → n ≤ length bs → g ≡ glyphs (without_lowest b k x % b)
    → ((j : ℕ) → j < k → get_or bs (n - 1 - j) 0 ≡ glyphs (without_lowest b j x % b)) → (j : ℕ) → j < k + 1 → get_or (set bs (n - 1 - k) g) (n - 1 - j) 0 ≡ glyphs (without_lowest b j x % b)
spelt_more b n x glyphs bs k g below long digit before j within = elim (cases_eq j k) [
  | inl e ↦ rw (e, get_or-set_same bs (n - 1 - k) g 0 (omega arith)) digit
  | inr m ↦ get_or-set_other bs (n - 1 - k) (n - 1 - j) g 0 (λ q. m (omega arith)) ∙ before j (omega arith)
]

glyph-below : (upper : Bool) (d : ℕ) → d < 16 → digit_glyph upper d < 128
glyph-below true d h = elim (cases_Bool (nat_lt d 10)) [ inl low ↦ rw low (omega arith) | inr high ↦ rw high (omega arith) ]
glyph-below false d h = elim (cases_Bool (nat_lt d 10)) [ inl low ↦ rw low (omega arith) | inr high ↦ rw high (omega arith) ]

pub below_16 : (s x : ℕ) → 0 < s → s ≤ 4 → x % 2 ^ s < 16
below_16 zero x some few = absurd (omega arith)
below_16 (suc zero) x some few = omega arith
below_16 (suc (suc zero)) x some few = omega arith
below_16 (suc (suc (suc zero))) x some few = omega arith
below_16 (suc (suc (suc (suc zero)))) x some few = omega arith
below_16 (suc (suc (suc (suc (suc s))))) x some few = absurd (omega arith)

pub IsAscii-lowest : (upper : Bool) (s n x : ℕ) → 0 < s → s ≤ 4 → IsAscii (map (digit_glyph upper) (lowest_digits (2 ^ s) n x))
IsAscii-lowest upper s n x some few i = elim (cases_lt i n) [
  | inl l ↦ rw (
    get_or-map (digit_glyph upper) (lowest_digits (2 ^ s) n x) i 0 0 (omega (arith, length-lowest (2 ^ s) n x)),
    get_or-lowest (2 ^ s) n x i l,
  ) (glyph-below upper (without_lowest (2 ^ s) (n - 1 - i) x % 2 ^ s) (below_16 s (without_lowest (2 ^ s) (n - 1 - i) x) some few))
  | inr m ↦ rw (get_or_past (map (digit_glyph upper) (lowest_digits (2 ^ s) n x)) i 0
      (omega (arith, length-map (lowest_digits (2 ^ s) n x) (digit_glyph upper), length-lowest (2 ^ s) n x))) (omega arith)
]

-- ---- words from the last to the first
digits_of_words-push : (b n : ℕ) (ws : List ℕ) (w : ℕ) → digits_of_words b n (ws ++ w ∷ []) ≡ lowest_digits b n w ++ digits_of_words b n ws
digits_of_words-push b n [] w = sym (append-nil (lowest_digits b n w))
digits_of_words-push b n (v ∷ ws) w = ap (λ ds. ds ++ lowest_digits b n v) (digits_of_words-push b n ws w) ∙ append_assoc (lowest_digits b n w) (digits_of_words b n ws) (lowest_digits b n v)

pub digits_of_words-take : (b n : ℕ) (ws : List ℕ) (k : ℕ) → k < length ws → digits_of_words b n (take (k + 1) ws) ≡ lowest_digits b n (get_or ws k 0) ++ digits_of_words b n (take k ws)
digits_of_words-take b n ws k within = ap (digits_of_words b n) (take_more ws k 0 within) ∙ digits_of_words-push b n (take k ws) (get_or ws k 0)

-- ---- the number that words are, with v above them
abbrev value_onto : List ℕ → ℕ → ℕ
value_onto [] v = v
value_onto (w ∷ ws) v = w + 2 ^ 64 * value_onto ws v

value_onto-push : (ws : List ℕ) (w v : ℕ) → value_onto (ws ++ w ∷ []) v ≡ value_onto ws (w + 2 ^ 64 * v)
value_onto-push [] w v = refl
value_onto-push (u ∷ ws) w v = ap (λ x. u + 2 ^ 64 * x) (value_onto-push ws w v)

-- as many digits as there are, and n more for each word
abbrev count_onto : ℕ → List ℕ → ℕ → ℕ
count_onto n [] c = c
count_onto n (w ∷ ws) c = count_onto n ws c + n

-- n digits in the base are 2 ^ 64 numbers
record IsWord (b n : ℕ) : Type 0 where
  over : (w v : ℕ) → w < 2 ^ 64 → without_lowest b n (w + 2 ^ 64 * v) ≡ v
  low : (w v : ℕ) → w < 2 ^ 64 → lowest_digits b n (w + 2 ^ 64 * v) ≡ lowest_digits b n w

digits_of_words-value_onto : (b n : ℕ) → IsWord b n → (ws : List ℕ) (c v : ℕ) → ((k : ℕ) → get_or ws k 0 < 2 ^ 64)
    → lowest_digits b (count_onto n ws c) (value_onto ws v) ≡ lowest_digits b c v ++ digits_of_words b n ws
digits_of_words-value_onto b n is [] c v fits = sym (append-nil (lowest_digits b c v))
digits_of_words-value_onto b n is (w ∷ ws) c v fits =
    lowest-split b (count_onto n ws c) n (w + 2 ^ 64 * value_onto ws v)
    ∙ ap (λ x. lowest_digits b (count_onto n ws c) x ++ lowest_digits b n (w + 2 ^ 64 * value_onto ws v)) (is.over w (value_onto ws v) (fits 0))
    ∙ ap (λ ds. lowest_digits b (count_onto n ws c) (value_onto ws v) ++ ds) (is.low w (value_onto ws v) (fits 0))
    ∙ ap (λ ds. ds ++ lowest_digits b n w) (digits_of_words-value_onto b n is ws c v (λ k. fits (suc k)))
    ∙ append_assoc (lowest_digits b c v) (digits_of_words b n ws) (lowest_digits b n w)

-- ---- the two bases
-- b ^ k, by recursion
abbrev power : ℕ → ℕ → ℕ
power b zero = 1
power b (suc k) = b * power b k

module _ (b : ℕ) (div : (w v : ℕ) → (w + b * v) / b ≡ w / b + v) (rest : (w v : ℕ) → (w + b * v) % b ≡ w % b) (less : (w p : ℕ) → w < b * p → w / b < p) where
  over_power : (k w v : ℕ) → w < power b k → without_lowest b k (w + power b k * v) ≡ v
  over_power zero w v h = omega arith
  over_power (suc k) w v h =
      let same : (w + b * power b k * v) / b ≡ w / b + power b k * v = rw (mul_assoc b (power b k) v) (div w (power b k * v)) in
      rw same (over_power k (w / b) v (less w (power b k) h))

  low_power : (k w v : ℕ) → lowest_digits b k (w + power b k * v) ≡ lowest_digits b k w
  low_power zero w v = refl
  low_power (suc k) w v =
      let same : (w + b * power b k * v) / b ≡ w / b + power b k * v = rw (mul_assoc b (power b k) v) (div w (power b k * v)) in
      let digit : (w + b * power b k * v) % b ≡ w % b = rw (mul_assoc b (power b k) v) (rest w (power b k * v)) in
      rw (same, digit) (ap (λ ds. ds ++ w % b ∷ []) (low_power k (w / b) v))

IsWord-binary : IsWord 2 64
IsWord-binary = record {
  over = λ w v h. over_power 2 (λ w v. omega arith) (λ w v. omega arith) (λ w p h. omega arith) 64 w v h;
  low = λ w v h. low_power 2 (λ w v. omega arith) (λ w v. omega arith) (λ w p h. omega arith) 64 w v;
}

IsWord-hex : IsWord 16 16
IsWord-hex = record {
  over = λ w v h. over_power 16 (λ w v. omega arith) (λ w v. omega arith) (λ w p h. omega arith) 16 w v h;
  low = λ w v h. low_power 16 (λ w v. omega arith) (λ w v. omega arith) (λ w p h. omega arith) 16 w v;
}

-- ---- the number of a list, by its words
two_times : (p v : ℕ) → p * 2 * v ≡ 2 * (p * v)
two_times p v = rw (← mul_assoc 2 p v) (ap (λ q. q * v) (omega arith))

drop_nothing : {X : Type 0} (n : ℕ) → drop {A = X} n [] ≡ []
drop_nothing zero = refl
drop_nothing (suc n) = refl

drop_again : {X : Type 0} (m n : ℕ) (xs : List X) → drop n (drop m xs) ≡ drop (m + n) xs
drop_again zero n xs = let none : 0 + n ≡ n = omega arith in rw none refl
drop_again (suc m) n [] = let more : suc m + n ≡ suc (m + n) = omega arith in rw more (drop_nothing n)
drop_again (suc m) n (x ∷ xs) = let more : suc m + n ≡ suc (m + n) = omega arith in rw more (drop_again m n xs)

value_of-split : (n : ℕ) (bs : List Bool) → value_of bs ≡ value_of (take n bs) + 2 ^ n * value_of (drop n bs)
value_of-split zero bs = omega arith
value_of-split (suc n) [] = let none : 2 ^ suc n * 0 ≡ 0 = omega arith in omega (arith, none)
value_of-split (suc n) (b ∷ bs) = rw (pow-suc 2 n) (omega (arith, value_of-split n bs, two_times (2 ^ n) (value_of (drop n bs))))

value_of-words : (bs : List Bool) (k : ℕ) → k ≤ word_count (length bs) → value_of bs ≡ value_onto (take k (words_of bs)) (value_of (drop (64 * k) bs))
value_of-words bs zero within = refl
value_of-words bs (suc k) within =
    let more : suc k ≡ k + 1 = omega arith in
    let far : 64 * k + 64 ≡ 64 * (k + 1) = omega arith in
    let inside : k < length (words_of bs) = omega (arith, length-words_of bs) in
    let part : value_of (drop (64 * k) bs) ≡ word_of bs k + 2 ^ 64 * value_of (drop (64 * (k + 1)) bs) =
    value_of-split 64 (drop (64 * k) bs) ∙ ap (λ ds. word_of bs k + 2 ^ 64 * value_of ds) (drop_again (64 * k) 64 bs ∙ ap (λ n. drop n bs) far) in
    let front : take (k + 1) (words_of bs) ≡ take k (words_of bs) ++ word_of bs k ∷ [] =
    take_more (words_of bs) k 0 inside ∙ ap (λ w. take k (words_of bs) ++ w ∷ []) (get_or-words_of bs k (omega arith)) in
    rw more (
    value_of-words bs k (omega arith)
    ∙ ap (value_onto (take k (words_of bs))) part
    ∙ sym (value_onto-push (take k (words_of bs)) (word_of bs k) (value_of (drop (64 * (k + 1)) bs)))
    ∙ ap (λ ws. value_onto ws (value_of (drop (64 * (k + 1)) bs))) (sym front))

-- the places from the last word on are that word
value_of-last : (bs : List Bool) (last : ℕ) → word_count (length bs) ≤ last + 1 → value_of (drop (64 * last) bs) ≡ word_of bs last
value_of-last bs last end = ap value_of (sym (take_all 64 (drop (64 * last) bs) (omega (arith, length-drop (64 * last) bs))))

-- k times n
abbrev times : ℕ → ℕ → ℕ
times n zero = 0
times n (suc k) = times n k + n

times_16 : (k : ℕ) → times 16 k ≡ 16 * k
times_16 zero = refl
times_16 (suc k) = omega (arith, times_16 k)

times_64 : (k : ℕ) → times 64 k ≡ 64 * k
times_64 zero = refl
times_64 (suc k) = omega (arith, times_64 k)

count_onto-take : (n c k : ℕ) (ws : List ℕ) → k ≤ length ws → count_onto n (take k ws) c ≡ c + times n k
count_onto-take n c zero ws within = omega arith
count_onto-take n c (suc k) [] within = absurd (omega (arith, within))
count_onto-take n c (suc k) (w ∷ ws) within = omega (arith, count_onto-take n c k ws (omega (arith, within)))

fits_take : (ws : List ℕ) (n : ℕ) → ((k : ℕ) → get_or ws k 0 < 2 ^ 64) → (k : ℕ) → get_or (take n ws) k 0 < 2 ^ 64
fits_take ws n fits k = elim (cases_lt k n) [
  | inl l ↦ rw (get_or-take n ws k 0 l) (fits k)
  | inr m ↦ rw (get_or_past (take n ws) k 0 (omega (arith, length-take n ws))) (omega arith)
]

-- all digits of the list: some of the last word, and those of each other word
lowest-words : (b n : ℕ) → IsWord b n → (bs : List Bool) (last c : ℕ) → word_count (length bs) ≡ last + 1 → ((k : ℕ) → get_or (words_of bs) k 0 < 2 ^ 64)
    → lowest_digits b (c + times n last) (value_of bs) ≡ lowest_digits b c (word_of bs last) ++ digits_of_words b n (take last (words_of bs))
lowest-words b n is bs last c count fits =
    let front : List ℕ = take last (words_of bs) in
    ap (lowest_digits b (c + times n last)) (value_of-words bs last (omega arith))
    ∙ ap (λ m. lowest_digits b m (value_onto front (value_of (drop (64 * last) bs)))) (sym (count_onto-take n c last (words_of bs) (omega (arith, length-words_of bs))))
    ∙ digits_of_words-value_onto b n is front c (value_of (drop (64 * last) bs)) (fits_take (words_of bs) last fits)
    ∙ ap (λ v. lowest_digits b c v ++ digits_of_words b n front) (value_of-last bs last (omega arith))

-- ---- the binary text
bit_glyph_is : (b : Bool) (v : ℕ) → digit_glyph false ((cond b 1 0 + 2 * v) % 2) ≡ bit_glyph b
bit_glyph_is true v = let odd : (1 + 2 * v) % 2 ≡ 1 = omega arith in rw odd refl
bit_glyph_is false v = let even : (0 + 2 * v) % 2 ≡ 0 = omega arith in rw even refl

binary_digits : (bs : List Bool) → map bit_glyph (reverse bs) ≡ map (digit_glyph false) (lowest_digits 2 (length bs) (value_of bs))
binary_digits [] = refl
binary_digits (b ∷ bs) =
    ap (map bit_glyph) (reverse-append (b ∷ []) bs) ∙ map-append bit_glyph (reverse bs) (b ∷ [])
    ∙ ap (λ t. t ++ bit_glyph b ∷ []) (binary_digits bs)
    ∙ sym (map-append (digit_glyph false) (lowest_digits 2 (length bs) (value_of (b ∷ bs) / 2)) (value_of (b ∷ bs) % 2 ∷ [])
    ∙ rw (value_half b (value_of bs), bit_glyph_is b (value_of bs)) refl)

pub binary_text_is : (bs : List Bool) (last : ℕ) → word_count (length bs) ≡ last + 1 → ((k : ℕ) → get_or (words_of bs) k 0 < 2 ^ 64)
    → binary_text bs ≡ map (digit_glyph false) (lowest_digits 2 (length bs - 64 * last) (word_of bs last)) ++ map (digit_glyph false) (digits_of_words 2 64 (take last (words_of bs)))
binary_text_is [] last count fits = absurd (omega (arith, count))
binary_text_is (b ∷ bs) last count fits =
    let all : length (b ∷ bs) ≡ length (b ∷ bs) - 64 * last + times 64 last = omega (arith, count, times_64 last) in
    binary_digits (b ∷ bs)
    ∙ ap (λ n. map (digit_glyph false) (lowest_digits 2 n (value_of (b ∷ bs)))) all
    ∙ ap (map (digit_glyph false)) (lowest-words 2 64 IsWord-binary (b ∷ bs) last (length (b ∷ bs) - 64 * last) count fits)
    ∙ map-append (digit_glyph false) (lowest_digits 2 (length (b ∷ bs) - 64 * last) (word_of (b ∷ bs) last)) (digits_of_words 2 64 (take last (words_of (b ∷ bs))))

-- ---- the hexadecimal text
pub hex_text_of_zeros : (upper : Bool) (bs : List Bool) → 0 < length bs → bs ≡ replicate (length bs) false → hex_text upper bs ≡ codes "0x0"
hex_text_of_zeros upper [] some zeros = absurd (omega (arith, some))
hex_text_of_zeros true (b ∷ bs) some zeros =
    let none : value_of (b ∷ bs) ≡ 0 = ap value_of zeros ∙ value_of-zeros (length (b ∷ bs)) in
    rw none refl
hex_text_of_zeros false (b ∷ bs) some zeros =
    let none : value_of (b ∷ bs) ≡ 0 = ap value_of zeros ∙ value_of-zeros (length (b ∷ bs)) in
    rw none refl

value_of-some : (bs : List Bool) → bs ≢ replicate (length bs) false → value_of bs ≢ 0
value_of-some bs some none = some (sym (digits_of-value_of bs) ∙ ap (λ v. digits_of (length bs) v) none ∙ digits_of-zero (length bs))

pub hex_text_is : (upper : Bool) (bs : List Bool) (last : ℕ) → word_count (length bs) ≡ last + 1 → bs ≢ replicate (length bs) false → ((k : ℕ) → get_or (words_of bs) k 0 < 2 ^ 64)
    → hex_text upper bs ≡ codes "0x" ++ (map (digit_glyph upper)
    (lowest_digits 16 (length (digits 16 false (word_of bs last))) (word_of bs last))
    ++ map (digit_glyph upper) (digits_of_words 16 16 (take last (words_of bs))))
hex_text_is upper [] last count some fits = absurd (omega (arith, count))
hex_text_is upper (b ∷ bs) last count some fits =
    let c : ℕ = length (digits 16 false (word_of (b ∷ bs) last)) in
    let at : word_count (length (b ∷ bs)) - 1 ≡ last = omega arith in
    let not_zero : (value_of (b ∷ bs) == 0) ≡ false = not_equal (value_of (b ∷ bs)) (value_of-some (b ∷ bs) some) in
    let counted : hex_count (b ∷ bs) ≡ c + times 16 last = rw (not_zero, at) (omega (arith, times_16 last)) in
    ap (λ n. codes "0x" ++ map (digit_glyph upper) (lowest_digits 16 n (value_of (b ∷ bs)))) counted
    ∙ ap (λ ds. codes "0x" ++ map (digit_glyph upper) ds) (lowest-words 16 16 IsWord-hex (b ∷ bs) last c count fits)
    ∙ ap (λ t. codes "0x" ++ t) (map-append (digit_glyph upper) (lowest_digits 16 c (word_of (b ∷ bs) last)) (digits_of_words 16 16 (take last (words_of (b ∷ bs)))))

-- ---- how many digits a number has in base 16
-- as `digits` counts them, at most k
abbrev pub digit_count : ℕ → ℕ → ℕ
digit_count zero x = 0
digit_count (suc k) x = cond (x / 16 == 0) 1 (suc (digit_count k (x / 16)))

length-digits_onto : (k : ℕ) (upper : Bool) (x : ℕ) (acc : List ℕ) → length (digits_onto k 16 upper x acc) ≡ digit_count k x + length acc
length-digits_onto zero upper x acc = omega arith
length-digits_onto (suc k) upper x acc = elim (cases_Bool (x / 16 == 0)) [
  | inl last ↦ rw last (omega arith)
  | inr more ↦ rw more (length-digits_onto k upper (x / 16) (digit_glyph upper (x % 16) ∷ acc) ∙ omega arith)
]

pub length-digits : (upper : Bool) (x : ℕ) → length (digits 16 upper x) ≡ digit_count 64 x
unfolding digits
length-digits upper x = length-digits_onto 64 upper x [] ∙ omega arith

-- so many digits were counted, and the number that is left has the others
pub record Counts (word len rest : ℕ) : Type 0 where
  pub some : 0 < len
  pub few : len ≤ 16
  pub small : rest < 16 ^ (17 - len)
  pub counted : digit_count 64 word + 1 ≡ len + digit_count (65 - len) rest

pub Counts-first : (word : ℕ) → word < 2 ^ 64 → Counts word 1 word
Counts-first word fits = record { some = omega arith; few = omega arith; small = omega arith; counted = omega arith }

shrink : (x j : ℕ) → x < 16 ^ suc j → x / 16 < 16 ^ j
shrink x j h = let less : x < 16 ^ j * 16 = rw pow-suc at h in omega arith

count_more : (k x : ℕ) → 16 ≤ x → digit_count (suc k) x ≡ suc (digit_count k (x / 16))
count_more k x h = let some : (x / 16 == 0) ≡ false = not_equal (x / 16) (λ e. omega arith) in rw some refl

count_end : (k x : ℕ) → x < 16 → digit_count (suc k) x ≡ 1
count_end k x h = let none : x / 16 ≡ 0 = omega arith in rw none refl

one_place : (x : ℕ) → x < 16 ^ 1 → x < 16
one_place x h = h

pub Counts-more : (word len rest : ℕ) → 16 ≤ rest → Counts word len rest → Counts word (len + 1) (rest / 16)
Counts-more word len rest h c =
    let room : len < 16 = elim (cases_lt len 16) [
      | inl l ↦ l
      | inr m ↦ absurd (let e : 17 - len ≡ 1 = omega (arith, c.few) in omega (arith, one_place rest (rw e at c.small)))
    ] in
    let exponent : 17 - len ≡ suc (17 - (len + 1)) = omega arith in
    let fuel : 65 - len ≡ suc (65 - (len + 1)) = omega arith in
    record {
      some = omega arith;
      few = omega arith;
      small = shrink rest (17 - (len + 1)) (rw exponent at c.small);
      counted = omega (arith, c.counted, ap (λ k. digit_count k rest) fuel, count_more (65 - (len + 1)) rest h);
    }

pub Counts-end : (word len rest : ℕ) → rest < 16 → Counts word len rest → len ≡ length (digits 16 false word)
Counts-end word len rest h c =
    let fuel : 65 - len ≡ suc (64 - len) = omega (arith, c.few) in
    omega (arith, c.counted, ap (λ k. digit_count k rest) fuel, count_end (64 - len) rest h, length-digits false word)

-- ---- binary texts tell lists apart
read_back : (xs : List Bool) → map (λ g. eqb g 49) (map bit_glyph xs) ≡ xs
read_back [] = refl
read_back (true ∷ xs) = ap (λ ys. true ∷ ys) (read_back xs)
read_back (false ∷ xs) = ap (λ ys. false ∷ ys) (read_back xs)

bit_glyph-below : (b : Bool) → bit_glyph b < 91
bit_glyph-below true = omega arith
bit_glyph-below false = omega arith

no_brackets : (b : Bool) (bs : List Bool) → codes "[]" ≢ binary_text (b ∷ bs)
no_brackets b bs e =
    let first : get_or (map bit_glyph (reverse (b ∷ bs))) 0 0 ≡ bit_glyph (get_or (reverse (b ∷ bs)) 0 false) =
    get_or-map bit_glyph (reverse (b ∷ bs)) 0 false 0 (omega (arith, length-reverse (b ∷ bs))) in
    let same : 91 ≡ get_or (map bit_glyph (reverse (b ∷ bs))) 0 0 = ap (λ t. get_or t 0 0) e in
    absurd (omega (arith, first, same, bit_glyph-below (get_or (reverse (b ∷ bs)) 0 false)))

same_from_text : (xs ys : List Bool) → binary_text xs ≡ binary_text ys → xs ≡ ys
same_from_text [] [] e = refl
same_from_text [] (y ∷ ys) e = absurd (no_brackets y ys e)
same_from_text (x ∷ xs) [] e = absurd (no_brackets x xs (sym e))
same_from_text (x ∷ xs) (y ∷ ys) e =
    let turned : reverse (x ∷ xs) ≡ reverse (y ∷ ys) = sym (read_back (reverse (x ∷ xs))) ∙ ap (map (λ g. eqb g 49)) e ∙ read_back (reverse (y ∷ ys)) in
    sym (reverse-reverse (x ∷ xs)) ∙ ap reverse turned ∙ reverse-reverse (y ∷ ys)

pub binary_texts_tell : BinaryTextsTell
binary_texts_tell xs ys = (same_from_text xs ys, ap binary_text)

-- one piece of the words from the last to the first, and the rest
pub digits_of_words-step : (glyphs : ℕ → ℕ) (b n : ℕ) (ws : List ℕ) (left : ℕ) → 0 < left → left ≤ length ws
    → map glyphs (lowest_digits b n (get_or ws (left - 1) 0)) ++ map glyphs (digits_of_words b n (take (left - 1) ws))
    ≡ map glyphs (digits_of_words b n (take left ws))
digits_of_words-step glyphs b n ws left some within =
    let back : left - 1 + 1 ≡ left = omega arith in
    sym (ap (λ k. map glyphs (digits_of_words b n (take k ws))) (sym back)
    ∙ ap (map glyphs) (digits_of_words-take b n ws (left - 1) (omega arith))
    ∙ map-append glyphs (lowest_digits b n (get_or ws (left - 1) 0)) (digits_of_words b n (take (left - 1) ws)))
