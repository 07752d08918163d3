-- Digits read a part after another, from the last part on.
use Rattle.std.proofs.Common.{◌≡◌, ℕ, ◌+◌, ◌*◌, ◌^◌, ◌<◌, ◌≤◌, cond, Bool, true, false, List, [], ◌∷◌, ◌++◌, length, map, reverse, take, drop, get_or, refl, ap, sym, ◌∙◌, arith}
use mir.Val.{bool_byte}
use Rattle.std.proofs.Math.Pow.{pow_mono}
use Rattle.std.proofs.Math.Seq.{take-append-add}
use Rattle.std.proofs.lemmas.List.{take_more, take-append-drop, length-take, map-append, length-map, reverse-append, length-reverse}
use Rattle.std.proofs.lemmas.List.FromFn.{take-map-range_with_len}
use Rattle.giputils_bits.specs.Prelude.{digits_of, has_digit, places_written, value_of}
use Rattle.giputils_bits.proofs.BinaryTexts.{is_one}
use Rattle.giputils_bits.proofs.Digits.{digits_of-value_of, value_of-below}

pub length-places_written : (text : List ℕ) → length (places_written text) ≡ length text
length-places_written text = length-map (reverse text) is_one ∙ length-reverse text

places_written-append : (xs ys : List ℕ) → places_written (xs ++ ys) ≡ places_written ys ++ places_written xs
places_written-append xs ys = ap (map is_one) (reverse-append xs ys) ∙ map-append is_one (reverse ys) (reverse xs)

pub places_written-more : (text : List ℕ) (i : ℕ) → i < length text → places_written (take (i + 1) text) ≡ is_one (get_or text i 0) ∷ places_written (take i text)
places_written-more text i within = ap places_written (take_more text i 0 within) ∙ places_written-append (take i text) (get_or text i 0 ∷ [])

pub places_written-split : (text : List ℕ) (n : ℕ) → places_written text ≡ places_written (drop n text) ++ places_written (take n text)
places_written-split text n = ap places_written (sym (take-append-drop n text)) ∙ places_written-append (take n text) (drop n text)

-- the value of at most 64 places is a word
pub value_of-fits : (bits : List Bool) (n : ℕ) → length bits ≤ n → value_of bits < 2 ^ n
value_of-fits bits n short = omega (arith, value_of-below bits, pow_mono short)

-- a word appended, without what is past the places that it is the value of
digits_of-front : (n number : ℕ) → n ≤ 64 → take n (digits_of 64 number) ≡ digits_of n number
unfolding digits_of
digits_of-front n number short = take-map-range_with_len (has_digit number) 0 64 n short

pub word_cut : (bits ds : List Bool) (len : ℕ) → length ds ≤ 64 → len ≡ length bits + length ds → take len (bits ++ digits_of 64 (value_of ds)) ≡ bits ++ ds
word_cut bits ds len short sum =
    ap (λ n. take n (bits ++ digits_of 64 (value_of ds))) sum
    ∙ take-append-add bits (digits_of 64 (value_of ds)) (length ds)
    ∙ ap (λ l. bits ++ l) (digits_of-front (length ds) (value_of ds) short ∙ digits_of-value_of ds)

-- a whole word appended
pub word_whole : (bits ds : List Bool) → length ds ≡ 64 → bits ++ digits_of 64 (value_of ds) ≡ bits ++ ds
word_whole bits ds long = ap (λ l. bits ++ l) (ap (λ n. digits_of n (value_of ds)) (sym long) ∙ digits_of-value_of ds)

-- ---- the number that digits write, the first of them the highest
byte_is : (b : Bool) → bool_byte b ≡ cond b 1 0
byte_is true = refl
byte_is false = refl

value_more : (b : Bool) (v n bit : ℕ) → n ≡ v → bit ≡ cond b 1 0 → 2 * n + bit ≡ cond b 1 0 + 2 * v
value_more b v n bit same told = omega (arith, same, told)

pub number_fits : (text : List ℕ) (i n : ℕ) → i < 64 → n ≡ value_of (places_written (take i text)) → n < 2 ^ 63
number_fits text i n below same =
    omega (arith, same, value_of-fits (places_written (take i text)) 63 (omega (arith, length-places_written (take i text), length-take i text)))

pub number_more : (text : List ℕ) (i n bit : ℕ) → i < length text → n ≡ value_of (places_written (take i text)) → bit ≡ bool_byte (is_one (get_or text i 0))
    → 2 * n + bit ≡ value_of (places_written (take (i + 1) text))
number_more text i n bit within same told =
    rw (places_written-more text i within) (value_more (is_one (get_or text i 0)) (value_of (places_written (take i text))) n bit same (told ∙ byte_is (is_one (get_or text i 0))))

pub bit_fits : (b : Bool) (bit : ℕ) → bit ≡ bool_byte b → bit ≤ 1
bit_fits true bit e = omega (arith, e)
bit_fits false bit e = omega (arith, e)
