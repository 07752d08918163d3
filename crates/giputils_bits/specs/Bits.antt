-- A list of booleans as a number, and as words of 64 bits. Place 0 is the lowest.
use Rattle.std.specs.Prelude.{ℕ, ◌+◌, ◌-◌, ◌*◌, ◌/◌, ◌==◌, Bool, true, false, List, [], ◌∷◌, ◌++◌, map, length, take, drop, replicate, if◌then◌else◌}
use Rattle.std.specs.Int.{bit_at}
use Rattle.std.specs.List.{range_with_len}

-- whether binary digit i of the number is 1
abbrev pub has_digit : ℕ → ℕ → Bool
has_digit number i = bit_at number i == 1

-- the n lowest binary digits of the number, the lowest first
unfoldable pub digits_of : ℕ → ℕ → List Bool
digits_of n number = map (has_digit number) (range_with_len 0 n)

-- the number that has these binary digits, the lowest first: the sum of 2 ^ i over the true places i
abbrev pub value_of : List Bool → ℕ
value_of [] = 0
value_of (b ∷ bs) = (if b then 1 else 0) + 2 * value_of bs

-- how many words n places take: n / 64, rounded up
abbrev pub word_count : ℕ → ℕ
word_count n = (n + 63) / 64

-- word k of the list: the number of its places from 64 * k to 64 * k + 63
abbrev pub word_of : List Bool → ℕ → ℕ
word_of bs k = value_of (take 64 (drop (64 * k) bs))

-- the words of the list, in order
unfoldable pub words_of : List Bool → List ℕ
words_of bs = map (word_of bs) (range_with_len 0 (word_count (length bs)))

-- n places, of which place 0 alone is true
abbrev pub one_of : ℕ → List Bool
one_of n = true ∷ replicate (n - 1) false

-- the list with the 64 digits of the word from place 64 * k on, as far as the list goes
abbrev pub with_word : ℕ → ℕ → List Bool → List Bool
with_word k word bs = take (length bs) (take (64 * k) bs ++ (digits_of 64 word ++ drop (64 * k + 64) bs))
