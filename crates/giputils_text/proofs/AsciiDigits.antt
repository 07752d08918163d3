-- The number that a word writes in decimal digits, as far as the word has been read.
use Rattle.std.proofs.Common.{◌≡◌, ◌<◌, ◌∷◌, [], length, ℕ, suc, zero, ◌+◌, ◌-◌, true, false, List, take, get_or, refl, arith, add-one}
use Rattle.std.proofs.lemmas.Bool.{and_parts, and_right}
use Rattle.std.specs.Char.{is_ascii_digit, digit_value}
use Rattle.std.specs.Str.{all_ascii_digits}

-- a byte that is no digit stands in the word
pub all_ascii_digits-other : (bs : List ℕ) (i : ℕ) → i < length bs → is_ascii_digit (get_or bs i 0) ≡ false
    → all_ascii_digits bs ≡ false
all_ascii_digits-other [] i h e = absurd (omega arith)
all_ascii_digits-other (b ∷ bs) zero h e = rw e refl
all_ascii_digits-other (b ∷ bs) (suc i) h e =
    and_right (is_ascii_digit b) (all_ascii_digits bs) (all_ascii_digits-other bs i (omega arith) e)

-- digits, and one more digit
pub all_ascii_digits-more : (bs : List ℕ) (i : ℕ) → i < length bs → all_ascii_digits (take i bs) ≡ true
    → is_ascii_digit (get_or bs i 0) ≡ true → all_ascii_digits (take (i + 1) bs) ≡ true
all_ascii_digits-more [] i h front e = absurd (omega arith)
all_ascii_digits-more (b ∷ bs) zero h front e = rw e refl
all_ascii_digits-more (b ∷ bs) (suc i) h front e =
    let (first, rest) = and_parts (is_ascii_digit b) (all_ascii_digits (take i bs)) front in
    rw (add-one, first) (rw add-one at (all_ascii_digits-more bs i (omega arith) rest e))

-- the value of a digit is its byte less that of `0`
pub digit_value-ascii : (c : ℕ) → is_ascii_digit c ≡ true → digit_value c ≡ c - 48
digit_value-ascii c e = grind arith
