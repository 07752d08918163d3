-- The words of a list: how many they are, what each is, and that they say which list it is.
use Rattle.std.proofs.Common.{◌≡◌, ℕ, ◌+◌, ◌*◌, ◌/◌, ◌%◌, ◌^◌, ◌<◌, ◌≤◌, Bool, false, List, ◌++◌, length, length-append, get_or, take, drop, sym, ap, ◌∙◌, arith, inl, inr, refl}
use Rattle.std.proofs.Math.Pow.{pow_mono}
use Rattle.std.proofs.lemmas.List.{same_lists, get_or_default, get_or_past, get_or-take, get_or-drop, length-take, length-take-le, length-drop}
use Rattle.std.proofs.lemmas.List.FromFn.{length-map-range_with_len, get_or-map-range_with_len}
use Rattle.std.proofs.lemmas.Bool.{cases_lt}
use Rattle.giputils_bits.specs.Prelude.{IsPacked, bits_of, digits_of, has_digit, place, with_word, word_count, word_of, words_of}
use Rattle.giputils_bits.proofs.Digits.{length-digits_of, has_digit-value_of, value_of-below, same_from_digits}
use Rattle.giputils_bits.proofs.Places.{place_is, place-past, length-bits_of, get_or-bits_of, bits_of_is}

pub length-words_of : (bs : List Bool) → length (words_of bs) ≡ word_count (length bs)
unfolding words_of
length-words_of bs = length-map-range_with_len (word_of bs) 0 (word_count (length bs))

pub get_or-words_of : (bs : List Bool) (k : ℕ) → k < word_count (length bs) → get_or (words_of bs) k 0 ≡ word_of bs k
unfolding words_of
get_or-words_of bs k within = get_or-map-range_with_len (word_of bs) 0 (word_count (length bs)) k k 0 within (omega arith)

-- place i of the words is bit i
pub place-words_of : (bs : List Bool) (i : ℕ) → place (words_of bs) i ≡ get_or bs i false
place-words_of bs i = elim (cases_lt (i / 64) (word_count (length bs))) [
  | inl within ↦
      let at : 64 * (i / 64) + i % 64 ≡ i = omega arith in
      rw (place_is (words_of bs) i, get_or-words_of bs (i / 64) within)
      (has_digit-value_of (take 64 (drop (64 * (i / 64)) bs)) (i % 64)
      ∙ get_or-take 64 (drop (64 * (i / 64)) bs) (i % 64) false (omega arith) ∙ get_or-drop (64 * (i / 64)) bs (i % 64) false
      ∙ ap (λ k. get_or bs k false) at)
  | inr past ↦ place-past (words_of bs) i (omega (arith, length-words_of bs)) ∙ sym (get_or_past bs i false (omega arith))
]

pub bits_of-words_of : (bs : List Bool) → bits_of (length bs) (words_of bs) ≡ bs
bits_of-words_of bs = bits_of_is (length bs) (words_of bs) bs refl (λ i below. place-words_of bs i)

-- lists of one length with the same words are equal
pub same_from_words_of : (xs ys : List Bool) → length xs ≡ length ys → words_of xs ≡ words_of ys → xs ≡ ys
same_from_words_of xs ys long same = sym (bits_of-words_of xs) ∙ ap (λ n. bits_of n (words_of xs)) long ∙ ap (λ ws. bits_of (length ys) ws) same ∙ bits_of-words_of ys

-- a word fits 64 digits
pub word_of-below : (bs : List Bool) (k : ℕ) → word_of bs k < 2 ^ 64
word_of-below bs k =
    let part : List Bool = take 64 (drop (64 * k) bs) in
    let short : length part ≤ 64 = omega (arith, length-take 64 (drop (64 * k) bs)) in
    omega (arith, value_of-below part, pow_mono short)

-- digit i of word k is bit 64 * k + i
pub has_digit-word_of : (bs : List Bool) (k i : ℕ) → i < 64 → has_digit (word_of bs k) i ≡ get_or bs (64 * k + i) false
has_digit-word_of bs k i below =
    has_digit-value_of (take 64 (drop (64 * k) bs)) i ∙ get_or-take 64 (drop (64 * k) bs) i false below ∙ get_or-drop (64 * k) bs i false

-- a word is word k of the list, if its digits are those bits
pub word_of_is : (w k : ℕ) (bs : List Bool) → w < 2 ^ 64 → ((i : ℕ) → i < 64 → has_digit w i ≡ get_or bs (64 * k + i) false) → w ≡ word_of bs k
word_of_is w k bs fits same = same_from_digits w (word_of bs k) fits (word_of-below bs k) (λ i below. same i below ∙ sym (has_digit-word_of bs k i below))

-- each of the words that keep a list is that word of the list
pub word_of-bits_of : (n : ℕ) (ws : List ℕ) (k : ℕ) → IsPacked n ws → get_or ws k 0 < 2 ^ 64 → get_or ws k 0 ≡ word_of (bits_of n ws) k
word_of-bits_of n ws k p fits = word_of_is (get_or ws k 0) k (bits_of n ws) fits (λ i below.
    let word : (64 * k + i) / 64 ≡ k = omega arith in
    let digit : (64 * k + i) % 64 ≡ i = omega arith in
    let read : place ws (64 * k + i) ≡ get_or (bits_of n ws) (64 * k + i) false = elim (cases_lt (64 * k + i) n) [
      | inl h ↦ sym (get_or-bits_of n ws (64 * k + i) false h)
      | inr h ↦ p.padding (64 * k + i) h ∙ sym (get_or_past (bits_of n ws) (64 * k + i) false (omega (arith, length-bits_of n ws)))
    ] in
    rw (place_is ws (64 * k + i), word, digit) at read)

-- words are those of a list, if each is
pub words_of_is : (ws : List ℕ) (bs : List Bool) → length ws ≡ word_count (length bs) → ((k : ℕ) → k < length ws → get_or ws k 0 ≡ word_of bs k) → ws ≡ words_of bs
words_of_is ws bs long same = same_lists ws (words_of bs) (long ∙ sym (length-words_of bs)) (λ k d within.
    get_or_default ws k d 0 within ∙ same k within ∙ sym (get_or-words_of bs k (omega arith)) ∙ get_or_default (words_of bs) k 0 d (omega (arith, length-words_of bs)))

-- the words that keep a list are its words, with a word of zeros where it is empty
pub words_of-bits_of : (n : ℕ) (ws : List ℕ) → IsPacked n ws → ((k : ℕ) → get_or ws k 0 < 2 ^ 64) → take (word_count n) ws ≡ words_of (bits_of n ws)
words_of-bits_of n ws p fits =
    let front : length (take (word_count n) ws) ≡ word_count n = length-take-le (word_count n) ws (omega (arith, p.count)) in
    words_of_is (take (word_count n) ws) (bits_of n ws) (front ∙ ap word_count (sym (length-bits_of n ws)))
    (λ k within. get_or-take (word_count n) ws k 0 (omega arith) ∙ word_of-bits_of n ws k p (fits k))

-- a list that is not empty is kept in its words
pub IsPacked-words_of : (bs : List Bool) → 0 < length bs → IsPacked (length bs) (words_of bs)
IsPacked-words_of bs some = record { count = omega (arith, length-words_of bs); padding = λ i past. place-words_of bs i ∙ get_or_past bs i false past }

-- a list is another of its length exactly where its words are
pub same_by_words : (xs ys : List Bool) → length xs ≡ length ys → ((k : ℕ) → k < length (words_of xs) → get_or (words_of xs) k 0 ≡ word_of ys k) → xs ≡ ys
same_by_words xs ys long same = same_from_words_of xs ys long (words_of_is (words_of xs) ys (length-words_of xs ∙ ap word_count long) same)

-- words of a list keep it
pub IsPacked-from_words : (n : ℕ) (ws : List ℕ) (bs : List Bool) → length bs ≡ n → 0 < n → ws ≡ words_of bs → IsPacked n ws
IsPacked-from_words n ws bs long some e = rw (e, ← long) (IsPacked-words_of bs (omega arith))

pub bits_of-from_words : (n : ℕ) (ws : List ℕ) (bs : List Bool) → length bs ≡ n → ws ≡ words_of bs → bits_of n ws ≡ bs
bits_of-from_words n ws bs long e = ap (λ vs. bits_of n vs) e ∙ ap (λ k. bits_of k (words_of bs)) (sym long) ∙ bits_of-words_of bs

-- the words of an equal list
pub get_or-words_of_same : (xs ys : List Bool) (k : ℕ) → xs ≡ ys → k < length (words_of xs) → get_or (words_of xs) k 0 ≡ word_of ys k
get_or-words_of_same xs ys k same within = get_or-words_of xs k (omega (arith, length-words_of xs)) ∙ ap (λ bs. word_of bs k) same

-- a list of which a word is written keeps its length
pub length-with_word : (k word : ℕ) (bs : List Bool) → length (with_word k word bs) ≡ length bs
length-with_word k word bs =
    let front : List Bool = take (64 * k) bs in
    let back : List Bool = drop (64 * k + 64) bs in
    omega (
      arith,
      length-take (length bs) (front ++ (digits_of 64 word ++ back)),
      length-append front (digits_of 64 word ++ back),
      length-append (digits_of 64 word) back,
      length-digits_of 64 word,
      length-take (64 * k) bs,
      length-drop (64 * k + 64) bs,
    )
