-- Binary digits of a number, and the number that a list of digits is.
use Rattle.std.proofs.Common.{◌≡◌, ℕ, zero, suc, ◌+◌, ◌-◌, ◌*◌, ◌/◌, ◌%◌, ◌^◌, ◌<◌, ◌≤◌, max, min, Bool, true, false, not, ◌&&◌, ◌||◌, eqb, cond, List, [], ◌∷◌, length, get_or, replicate, refl, sym, ap, ◌∙◌, arith, tests, w64}
use Rattle.std.specs.Prelude.{bit_and, bit_or, bit_xor}
use Rattle.std.specs.Int.{bit_at, bit_not}
use Rattle.std.proofs.Math.Nat.{pow-suc}
use Rattle.std.proofs.lemmas.Nat.{and_mask, shr-shr, pow_pos}
use Rattle.std.proofs.lemmas.Nat.Bits.{bit_at-lt, bit_at-zero, bit_at-suc, bit_at_lowest, bit_at_and, bit_at_or, bit_at_xor, bit_at_not, bit_at_ones, bit_at_ones_above, bit_at_above, bit_at_cat_low, bit_at_cat_high, same_from_bits_below}
use Rattle.std.proofs.lemmas.List.{same_lists, get_or_default, get_or-replicate, length-replicate}
use Rattle.std.proofs.lemmas.List.FromFn.{length-map-range_with_len, get_or-map-range_with_len}
use Rattle.giputils_bits.specs.Prelude.{digits_of, has_digit, one_of, value_of, xor}

-- ---- one digit
pub same_digit : (a b : ℕ) → a < 2 → b < 2 → eqb a 1 ≡ eqb b 1 → a ≡ b
same_digit a b p q e = grind (arith, tests)

or_test : (a b : ℕ) → a < 2 → b < 2 → eqb (max a b) 1 ≡ (eqb a 1 || eqb b 1)
or_test zero zero p q = refl
or_test zero (suc zero) p q = refl
or_test (suc zero) zero p q = refl
or_test (suc zero) (suc zero) p q = refl
or_test (suc (suc a)) b p q = absurd (omega arith)
or_test a (suc (suc b)) p q = absurd (omega arith)

pub has_digit-zero : (i : ℕ) → has_digit 0 i ≡ false
has_digit-zero i = rw (bit_at-zero i) refl

pub has_digit-or : (a b i : ℕ) → has_digit (bit_or a b) i ≡ (has_digit a i || has_digit b i)
has_digit-or a b i = ap (λ x. eqb x 1) (bit_at_or a b i) ∙ or_test (bit_at a i) (bit_at b i) (bit_at-lt a i) (bit_at-lt b i)

-- the digits of a conjunction, of an exclusive or, and of the negated word
and_test : (a b : ℕ) → a < 2 → b < 2 → eqb (min a b) 1 ≡ (eqb a 1 && eqb b 1)
and_test zero zero p q = refl
and_test zero (suc zero) p q = refl
and_test (suc zero) zero p q = refl
and_test (suc zero) (suc zero) p q = refl
and_test (suc (suc a)) b p q = absurd (omega arith)
and_test a (suc (suc b)) p q = absurd (omega arith)

xor_test : (a b : ℕ) → a < 2 → b < 2 → eqb ((a + b) % 2) 1 ≡ xor (eqb a 1) (eqb b 1)
xor_test zero zero p q = refl
xor_test zero (suc zero) p q = refl
xor_test (suc zero) zero p q = refl
xor_test (suc zero) (suc zero) p q = refl
xor_test (suc (suc a)) b p q = absurd (omega arith)
xor_test a (suc (suc b)) p q = absurd (omega arith)

not_test : (a : ℕ) → a < 2 → eqb (1 - a) 1 ≡ not (eqb a 1)
not_test zero p = refl
not_test (suc zero) p = refl
not_test (suc (suc a)) p = absurd (omega arith)

pub has_digit-and : (a b i : ℕ) → has_digit (bit_and a b) i ≡ (has_digit a i && has_digit b i)
has_digit-and a b i = ap (λ x. eqb x 1) (bit_at_and a b i) ∙ and_test (bit_at a i) (bit_at b i) (bit_at-lt a i) (bit_at-lt b i)

pub has_digit-xor : (a b i : ℕ) → has_digit (bit_xor a b) i ≡ xor (has_digit a i) (has_digit b i)
has_digit-xor a b i = ap (λ x. eqb x 1) (bit_at_xor a b i) ∙ xor_test (bit_at a i) (bit_at b i) (bit_at-lt a i) (bit_at-lt b i)

pub has_digit-not : (a i : ℕ) → a < 2 ^ 64 → i < 64 → has_digit (bit_not w64 a) i ≡ not (has_digit a i)
has_digit-not a i fits within = ap (λ x. eqb x 1) (bit_at_not w64 a i fits within) ∙ not_test (bit_at a i) (bit_at-lt a i)

-- a number below 2 ^ n has no digit from n on
pub has_digit-above : (number n i : ℕ) → number < 2 ^ n → n ≤ i → has_digit number i ≡ false
has_digit-above number n i below past = ap (λ x. eqb x 1) (bit_at_above number n i below past)

-- `2 ^ n - 1` has the digits below n
pub has_digit-ones : (n i : ℕ) → i < n → has_digit (2 ^ n - 1) i ≡ true
has_digit-ones n i below = ap (λ x. eqb x 1) (bit_at_ones n i below)

pub has_digit-ones_above : (n i : ℕ) → n ≤ i → has_digit (2 ^ n - 1) i ≡ false
has_digit-ones_above n i past = ap (λ x. eqb x 1) (bit_at_ones_above n i past)

bit_at-mod : (number n i : ℕ) → i < n → bit_at (number % 2 ^ n) i ≡ bit_at number i
bit_at-mod number n i below = rw (← and_mask number n) (omega (arith, bit_at_and number (2 ^ n - 1) i, bit_at_ones n i below, bit_at-lt number i))

-- the digits below n
pub has_digit-mod : (number n i : ℕ) → i < n → has_digit (number % 2 ^ n) i ≡ has_digit number i
has_digit-mod number n i below = ap (λ x. eqb x 1) (bit_at-mod number n i below)

-- `word << n`
pub has_digit-shl_low : (word n i : ℕ) → i < n → i < 64 → has_digit (word * 2 ^ n % 2 ^ 64) i ≡ false
has_digit-shl_low word n i below within =
    let low : bit_at (word * 2 ^ n + 0) i ≡ bit_at 0 i = bit_at_cat_low word n 0 i below in
    let same : word * 2 ^ n + 0 ≡ word * 2 ^ n = omega arith in
    ap (λ x. eqb x 1) (bit_at-mod (word * 2 ^ n) 64 i within ∙ ap (λ x. bit_at x i) (sym same) ∙ low ∙ bit_at-zero i)

pub has_digit-shl_high : (word n i : ℕ) → n ≤ i → i < 64 → has_digit (word * 2 ^ n % 2 ^ 64) i ≡ has_digit word (i - n)
has_digit-shl_high word n i past within =
    let same : word * 2 ^ n + 0 ≡ word * 2 ^ n = omega arith in
    ap (λ x. eqb x 1) (bit_at-mod (word * 2 ^ n) 64 i within ∙ ap (λ x. bit_at x i) (sym same) ∙ bit_at_cat_high word n 0 i (pow_pos n) past)

-- `word >> n`
pub has_digit-shr : (word n i : ℕ) → has_digit (word / 2 ^ n) i ≡ has_digit word (n + i)
has_digit-shr word n i = ap (λ x. eqb (x % 2) 1) (shr-shr word n i)

-- words with the same digits are equal
pub same_from_digits : (v w : ℕ) → v < 2 ^ 64 → w < 2 ^ 64 → ((i : ℕ) → i < 64 → has_digit v i ≡ has_digit w i) → v ≡ w
same_from_digits v w p q same = same_from_bits_below 64 v w p q (λ i h. same_digit (bit_at v i) (bit_at w i) (bit_at-lt v i) (bit_at-lt w i) (same i h))

-- ---- the digits of a number, as a list
pub length-digits_of : (n number : ℕ) → length (digits_of n number) ≡ n
unfolding digits_of
length-digits_of n number = length-map-range_with_len (has_digit number) 0 n

pub get_or-digits_of : (n number i : ℕ) (d : Bool) → i < n → get_or (digits_of n number) i d ≡ has_digit number i
unfolding digits_of
get_or-digits_of n number i d below = get_or-map-range_with_len (has_digit number) 0 n i i d below (omega arith)

-- a list is the digits of a number, if it is place by place
pub digits_of_is : (n number : ℕ) (bs : List Bool) → length bs ≡ n → ((i : ℕ) → i < n → has_digit number i ≡ get_or bs i false) → digits_of n number ≡ bs
digits_of_is n number bs long same = same_lists _ _ (length-digits_of n number ∙ sym long) (λ k d l.
    let below : k < n = omega (arith, length-digits_of n number) in
    get_or-digits_of n number k d below ∙ same k below ∙ get_or_default bs k false d (omega arith))

pub digits_of-mod : (n number : ℕ) → digits_of n (number % 2 ^ n) ≡ digits_of n number
digits_of-mod n number = digits_of_is n (number % 2 ^ n) _ (length-digits_of n number) (λ i below. has_digit-mod number n i below ∙ sym (get_or-digits_of n number i false below))

pub digits_of-none : (number : ℕ) → digits_of 0 number ≡ []
unfolding digits_of
digits_of-none number = refl

pub digits_of-zero : (n : ℕ) → digits_of n 0 ≡ replicate n false
digits_of-zero n = digits_of_is n 0 _ (length-replicate n false) (λ i below. has_digit-zero i ∙ sym (get_or-replicate n i false false below))

one_digit : (n i : ℕ) → i < n → has_digit 1 i ≡ get_or (one_of n) i false
one_digit n zero below = refl
one_digit n (suc i) below = rw (bit_at-suc 1 i, bit_at-zero i) (sym (get_or-replicate (n - 1) i false false (omega arith)))

pub digits_of-one : (n : ℕ) → 0 < n → digits_of n 1 ≡ one_of n
digits_of-one n some = digits_of_is n 1 _ (omega (arith, length-replicate (n - 1) false)) (one_digit n)

-- ---- the number of a list of digits
pub value_half : (b : Bool) (v : ℕ) → (cond b 1 0 + 2 * v) / 2 ≡ v
value_half true v = omega arith
value_half false v = omega arith

value_low : (b : Bool) (v : ℕ) → eqb ((cond b 1 0 + 2 * v) % 2) 1 ≡ b
value_low true v = let odd : (1 + 2 * v) % 2 ≡ 1 = omega arith in rw odd refl
value_low false v = let even : (0 + 2 * v) % 2 ≡ 0 = omega arith in rw even refl

pub has_digit-value_of : (bs : List Bool) (i : ℕ) → has_digit (value_of bs) i ≡ get_or bs i false
has_digit-value_of [] i = rw (bit_at-zero i) refl
has_digit-value_of (b ∷ bs) zero = rw (bit_at_lowest (value_of (b ∷ bs))) (value_low b (value_of bs))
has_digit-value_of (b ∷ bs) (suc i) = rw (bit_at-suc (value_of (b ∷ bs)) i, value_half b (value_of bs)) (has_digit-value_of bs i)

pub value_of-below : (bs : List Bool) → value_of bs < 2 ^ length bs
value_of-below [] = omega arith
value_of-below (true ∷ bs) = rw pow-suc (omega (arith, value_of-below bs))
value_of-below (false ∷ bs) = rw pow-suc (omega (arith, value_of-below bs))

-- a list is the digits of its number
pub digits_of-value_of : (bs : List Bool) → digits_of (length bs) (value_of bs) ≡ bs
digits_of-value_of bs = digits_of_is (length bs) (value_of bs) bs refl (λ i below. has_digit-value_of bs i)
