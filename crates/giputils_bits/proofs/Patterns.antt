-- The words of lists of one value, and of the digits of a number.
use Rattle.std.proofs.Common.{◌≡◌, ℕ, zero, suc, ◌+◌, ◌-◌, ◌*◌, ◌/◌, ◌^◌, ◌<◌, ◌≤◌, Bool, true, false, List, [], ◌∷◌, length, get_or, take, drop, set, replicate, sym, ap, subst, ◌∙◌, arith, inl, inr, refl}
use Rattle.std.proofs.Math.Nat.{pow-suc}
use Rattle.std.proofs.Math.Pow.{pow_mono}
use Rattle.std.proofs.lemmas.List.{length-set, length-replicate, get_or-replicate, get_or-set_same, get_or-set_other, get_or_past, take-replicate, drop-replicate, take_all, length-take, length-drop, get_or-take, get_or-drop}
use Rattle.std.proofs.lemmas.Nat.{pow_pos}
use Rattle.std.proofs.lemmas.Bool.{cases_eq, cases_lt, false≢true}
use Rattle.giputils_bits.specs.Prelude.{IsPacked, bits_of, digits_of, has_digit, one_of, value_of, word_count, word_of, words_of}
use Rattle.giputils_bits.proofs.Digits.{has_digit-zero, has_digit-above, length-digits_of, get_or-digits_of, digits_of-one}
use Rattle.giputils_bits.proofs.Places.{place_is, kept-length}
use Rattle.giputils_bits.proofs.Words.{length-words_of, words_of_is, word_of_is, words_of-bits_of, same_by_words, get_or-words_of_same}

-- ---- one value
pub value_of-zeros : (n : ℕ) → value_of (replicate n false) ≡ 0
value_of-zeros zero = refl
value_of-zeros (suc n) = omega (arith, value_of-zeros n)

pub value_of-ones : (n : ℕ) → value_of (replicate n true) ≡ 2 ^ n - 1
value_of-ones zero = refl
value_of-ones (suc n) = rw pow-suc (omega (arith, value_of-ones n, pow_pos n))

-- a word before the last
pub word_of-replicate : (n k : ℕ) (b : Bool) → 64 * k + 64 ≤ n → word_of (replicate n b) k ≡ value_of (replicate 64 b)
word_of-replicate n k b within = ap value_of (ap (λ bs. take 64 bs) (drop-replicate (64 * k) n b) ∙ take-replicate 64 (n - 64 * k) b (omega arith))

-- the last word
pub word_of-replicate_last : (n k : ℕ) (b : Bool) → n ≤ 64 * k + 64 → word_of (replicate n b) k ≡ value_of (replicate (n - 64 * k) b)
word_of-replicate_last n k b past = ap value_of (ap (λ bs. take 64 bs) (drop-replicate (64 * k) n b) ∙ take_all 64 (replicate (n - 64 * k) b) (omega (arith, length-replicate (n - 64 * k) b)))

-- ---- the digits of a number
pub word_of-digits_of : (n number : ℕ) → number < 2 ^ 64 → number < 2 ^ n → word_of (digits_of n number) 0 ≡ number
word_of-digits_of n number fits small = sym (word_of_is number 0 (digits_of n number) fits (λ i below.
    let first : 64 * 0 + i ≡ i = omega arith in
    rw first (elim (cases_lt i n) [
      | inl h ↦ sym (get_or-digits_of n number i false h)
      | inr h ↦ has_digit-above number n i small h ∙ sym (get_or_past (digits_of n number) i false (omega (arith, length-digits_of n number)))
    ])))

pub word_of-digits_of_above : (n number k : ℕ) → number < 2 ^ 64 → 0 < k → word_of (digits_of n number) k ≡ 0
word_of-digits_of_above n number k fits above = sym (word_of_is 0 k (digits_of n number) (omega arith) (λ i below. has_digit-zero i ∙ elim (cases_lt (64 * k + i) n) [
  | inl h ↦ sym (get_or-digits_of n number (64 * k + i) false h ∙ has_digit-above number 64 (64 * k + i) fits (omega arith))
  | inr h ↦ sym (get_or_past (digits_of n number) (64 * k + i) false (omega (arith, length-digits_of n number)))
]))

-- ---- which list it is, told by the words
zeros_word : (n k : ℕ) → word_of (replicate n false) k ≡ 0
zeros_word n k = sym (word_of_is 0 k (replicate n false) (omega arith) (λ i below. has_digit-zero i ∙ elim (cases_lt (64 * k + i) n) [
  | inl h ↦ sym (get_or-replicate n (64 * k + i) false false h)
  | inr h ↦ sym (get_or_past (replicate n false) (64 * k + i) false (omega (arith, length-replicate n false)))
]))

pub zeros_from_words : (bs : List Bool) → ((k : ℕ) → k < length (words_of bs) → get_or (words_of bs) k 0 ≡ 0) → bs ≡ replicate (length bs) false
zeros_from_words bs none = same_by_words bs (replicate (length bs) false) (sym (length-replicate (length bs) false)) (λ k within. none k within ∙ sym (zeros_word (length bs) k))

pub words_of_zeros : (bs : List Bool) → bs ≡ replicate (length bs) false → (k : ℕ) → k < length (words_of bs) → get_or (words_of bs) k 0 ≡ 0
words_of_zeros bs e k within = get_or-words_of_same bs (replicate (length bs) false) k e within ∙ zeros_word (length bs) k

one_word : (n : ℕ) → 0 < n → word_of (one_of n) 0 ≡ 1
one_word n some = ap (λ bs. word_of bs 0) (sym (digits_of-one n some)) ∙ word_of-digits_of n 1 (omega arith) (omega (arith, pow_mono some))

one_word_above : (n k : ℕ) → 0 < n → 0 < k → word_of (one_of n) k ≡ 0
one_word_above n k some above = ap (λ bs. word_of bs k) (sym (digits_of-one n some)) ∙ word_of-digits_of_above n 1 k (omega arith) above

pub one_from_words : (bs : List Bool) → 0 < length bs → get_or (words_of bs) 0 0 ≡ 1 → ((k : ℕ) → k < length (drop 1 (words_of bs)) → get_or (drop 1 (words_of bs)) k 0 ≡ 0) → bs ≡ one_of (length bs)
one_from_words bs some first none =
    same_by_words bs (one_of (length bs)) (omega (arith, length-replicate (length bs - 1) false)) (λ k within. elim (cases_eq k 0) [
      | inl e ↦ rw e (first ∙ sym (one_word (length bs) some))
      | inr m ↦
          let place : 1 + (k - 1) ≡ k = omega arith in
          ap (λ i. get_or (words_of bs) i 0) (sym place) ∙ sym (get_or-drop 1 (words_of bs) (k - 1) 0)
          ∙ none (k - 1) (omega (arith, length-drop 1 (words_of bs))) ∙ sym (one_word_above (length bs) k some (omega arith))
    ])

pub words_of_one : (bs : List Bool) → 0 < length bs → bs ≡ one_of (length bs) → get_or (words_of bs) 0 0 ≡ 1
words_of_one bs some e = get_or-words_of_same bs (one_of (length bs)) 0 e (omega (arith, length-words_of bs)) ∙ one_word (length bs) some

pub words_of_one_above : (bs : List Bool) → 0 < length bs → bs ≡ one_of (length bs) → (k : ℕ) → k < length (drop 1 (words_of bs)) → get_or (drop 1 (words_of bs)) k 0 ≡ 0
words_of_one_above bs some e k within =
    get_or-drop 1 (words_of bs) k 0 ∙ get_or-words_of_same bs (one_of (length bs)) (1 + k) e (omega (arith, length-drop 1 (words_of bs))) ∙ one_word_above (length bs) (1 + k) some (omega arith)

-- words that keep a list tell whether its first place alone is true
module _ (n : ℕ) (ws : List ℕ) (bs : List Bool) (v : bits_of n ws ≡ bs) (p : IsPacked n ws) (fits : (k : ℕ) → get_or ws k 0 < 2 ^ 64) where
  some_from_one : get_or ws 0 0 ≡ 1 → 0 < length bs
  some_from_one first = elim (cases_lt 0 n) [
    | inl l ↦ omega (arith, kept-length n ws bs v)
    | inr m ↦ absurd (false≢true (sym (p.padding 0 m) ∙ place_is ws 0 ∙ ap (λ w. has_digit w 0) first))
  ]

  some_from_list : bs ≡ one_of (length bs) → 0 < length bs
  some_from_list e = omega (arith, ap length e, length-replicate (length bs - 1) false)

  as_words_of : 0 < length bs → ws ≡ words_of bs
  as_words_of some =
      sym (take_all (word_count n) ws (omega (arith, p.count, kept-length n ws bs v))) ∙ words_of-bits_of n ws p fits ∙ ap words_of v

  pub one_from_kept : get_or ws 0 0 ≡ 1 → ((k : ℕ) → k < length (drop 1 ws) → get_or (drop 1 ws) k 0 ≡ 0) → bs ≡ one_of (length bs)
  one_from_kept first none =
      let some = some_from_one first in
      let same = as_words_of some in
      one_from_words bs some (ap (λ vs. get_or vs 0 0) (sym same) ∙ first) (subst (λ vs. (k : ℕ) → k < length (drop 1 vs) → get_or (drop 1 vs) k 0 ≡ 0) same none)

  pub kept_one : bs ≡ one_of (length bs) → get_or ws 0 0 ≡ 1
  kept_one e = ap (λ vs. get_or vs 0 0) (as_words_of (some_from_list e)) ∙ words_of_one bs (some_from_list e) e

  pub kept_one_above : bs ≡ one_of (length bs) → (k : ℕ) → k < length (drop 1 ws) → get_or (drop 1 ws) k 0 ≡ 0
  kept_one_above e =
      subst (λ vs. (k : ℕ) → k < length (drop 1 vs) → get_or (drop 1 vs) k 0 ≡ 0) (sym (as_words_of (some_from_list e))) (words_of_one_above bs (some_from_list e) e)

ones_word : (n k : ℕ) → 64 * k + 64 ≤ n → word_of (replicate n true) k ≡ 2 ^ 64 - 1
ones_word n k within = word_of-replicate n k true within ∙ value_of-ones 64

ones_word_last : (n k : ℕ) → n ≤ 64 * k + 64 → word_of (replicate n true) k ≡ 2 ^ (n - 64 * k) - 1
ones_word_last n k past = word_of-replicate_last n k true past ∙ value_of-ones (n - 64 * k)

pub ones_from_words : (bs : List Bool) (last : ℕ) → last + 1 ≡ length (words_of bs) → get_or (words_of bs) last 0 ≡ 2 ^ (length bs - 64 * last) - 1
    → ((k : ℕ) → k < length (take last (words_of bs)) → get_or (take last (words_of bs)) k 0 ≡ 2 ^ 64 - 1) → bs ≡ replicate (length bs) true
ones_from_words bs last count high full =
    same_by_words bs (replicate (length bs) true) (sym (length-replicate (length bs) true)) (λ k within. elim (cases_lt k last) [
      | inl l ↦ sym (get_or-take last (words_of bs) k 0 l) ∙ full k (omega (arith, length-take last (words_of bs))) ∙ sym (ones_word (length bs) k (omega (arith, length-words_of bs)))
      | inr m ↦
          let e : k ≡ last = omega arith in
          rw e (high ∙ sym (ones_word_last (length bs) last (omega (arith, length-words_of bs))))
    ])

pub words_of_ones_last : (bs : List Bool) (last : ℕ) → last + 1 ≡ length (words_of bs) → bs ≡ replicate (length bs) true → get_or (words_of bs) last 0 ≡ 2 ^ (length bs - 64 * last) - 1
words_of_ones_last bs last count e = get_or-words_of_same bs (replicate (length bs) true) last e (omega arith) ∙ ones_word_last (length bs) last (omega (arith, length-words_of bs))

pub words_of_ones : (bs : List Bool) (last : ℕ) → last + 1 ≡ length (words_of bs) → bs ≡ replicate (length bs) true → (k : ℕ)
    → k < length (take last (words_of bs)) → get_or (take last (words_of bs)) k 0 ≡ 2 ^ 64 - 1
words_of_ones bs last count e k within =
    let below : k < last = omega (arith, length-take last (words_of bs)) in
    get_or-take last (words_of bs) k 0 below ∙ get_or-words_of_same bs (replicate (length bs) true) k e (omega arith) ∙ ones_word (length bs) k (omega (arith, length-words_of bs))

-- a list without a place has each pattern
pub empty_is_replicate : (bs : List Bool) (b : Bool) → length bs ≡ 0 → bs ≡ replicate (length bs) b
empty_is_replicate [] b e = refl
empty_is_replicate (x ∷ xs) b e = absurd (omega (arith, e))

-- ---- the words that constructors write
single : (w v : ℕ) (k : ℕ) → k < 1 → w ≡ v → get_or (w ∷ []) k 0 ≡ v
single w v zero below e = e
single w v (suc k) below e = absurd (omega arith)

pub one_word_of_replicate : (n : ℕ) (b : Bool) → 0 < n → n ≤ 64 → value_of (replicate n b) ∷ [] ≡ words_of (replicate n b)
one_word_of_replicate n b some short =
    words_of_is (value_of (replicate n b) ∷ []) (replicate n b) (omega (arith, length-replicate n b)) (λ k within.
    let first : k ≡ 0 = omega arith in
    let all : n - 64 * 0 ≡ n = omega arith in
    single _ _ k within (rw first (sym (word_of-replicate_last n 0 b (omega arith) ∙ ap (λ m. value_of (replicate m b)) all))))

pub words_of_replicate : (n last : ℕ) (b : Bool) → 0 < n → (n - 1) / 64 ≡ last
    → set (replicate (last + 1) (value_of (replicate 64 b))) last (value_of (replicate (n - 64 * last) b)) ≡ words_of (replicate n b)
words_of_replicate n last b some at_last =
    let full : List ℕ = replicate (last + 1) (value_of (replicate 64 b)) in
    let rest : ℕ = value_of (replicate (n - 64 * last) b) in
    words_of_is (set full last rest) (replicate n b)
    (omega (arith, length-set full last rest, length-replicate (last + 1) (value_of (replicate 64 b)), length-replicate n b))
    (λ k within. elim (cases_eq k last) [
      | inl e ↦ rw (e, get_or-set_same full last rest 0 (omega (arith, length-replicate (last + 1) (value_of (replicate 64 b))))) (sym (word_of-replicate_last n last b (omega arith)))
      | inr m ↦
          let before : k < last = omega (arith, length-set full last rest, length-replicate (last + 1) (value_of (replicate 64 b))) in
          get_or-set_other full last k rest 0 m ∙ get_or-replicate (last + 1) k (value_of (replicate 64 b)) 0 (omega arith) ∙ sym (word_of-replicate n k b (omega arith))
    ])

pub words_of_digits : (n number : ℕ) → 64 < n → number < 2 ^ 64 → set (replicate ((n - 1) / 64 + 1) 0) 0 number ≡ words_of (digits_of n number)
words_of_digits n number long fits =
    let zeros : List ℕ = replicate ((n - 1) / 64 + 1) 0 in
    let small : number < 2 ^ n = omega (arith, pow_mono {i = 64} {j = n} (omega arith)) in
    words_of_is (set zeros 0 number) (digits_of n number)
    (omega (arith, length-set zeros 0 number, length-replicate {A = ℕ} ((n - 1) / 64 + 1) 0, length-digits_of n number)) (λ k within. elim (cases_eq k 0) [
      | inl e ↦ rw (e, get_or-set_same zeros 0 number 0 (omega (arith, length-replicate {A = ℕ} ((n - 1) / 64 + 1) 0))) (sym (word_of-digits_of n number fits small))
      | inr m ↦ get_or-set_other zeros 0 k number 0 m
          ∙ get_or-replicate ((n - 1) / 64 + 1) k 0 0
          (omega (arith, length-set zeros 0 number, length-replicate {A = ℕ} ((n - 1) / 64 + 1) 0))
          ∙ sym (word_of-digits_of_above n number k fits (omega arith))
    ])
