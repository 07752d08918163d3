-- How words keep a list of booleans: place i is digit i % 64 of word i / 64. Only this crate's own functions speak of
-- it.
use Rattle.std.specs.Prelude.{◌≡◌, ◌≢◌, ℕ, ◌+◌, ◌-◌, ◌*◌, ◌/◌, ◌%◌, ◌^◌, ◌<◌, ◌≤◌, max, min, Bool, true, false, ◌||◌, not, List, [], ◌∷◌, ◌++◌, map, length, drop, replicate, slice_index, bit_and, bit_xor}
use Rattle.std.specs.List.{range_with_len}
use Rattle.giputils_bits.specs.Bits.{has_digit, word_count}

-- the words of a storage: those on the heap, or the one inline where there are none
abbrev pub storage_words : ℕ → List ℕ → List ℕ
storage_words inline [] = inline ∷ []
storage_words inline (w ∷ ws) = w ∷ ws

-- place i of the words; past their end it is false
unfoldable pub place : List ℕ → ℕ → Bool
place ws i = has_digit (slice_index ws (i / 64)) (i % 64)

-- n places of the words, from place `start` on
unfoldable pub places : List ℕ → ℕ → ℕ → List Bool
places ws start n = map (place ws) (range_with_len start n)

-- the first n places of the words
abbrev pub bits_of : ℕ → List ℕ → List Bool
bits_of n ws = places ws 0 n

-- the words from the k-th on, which is this one, behind words of zeros
abbrev pub words_from : ℕ → ℕ → List ℕ → List ℕ
words_from k word ws = replicate k 0 ++ word ∷ drop (k + 1) ws

-- the words are as many as n places take, but at least one, and all their places from n on are false
pub record IsPacked (n : ℕ) (ws : List ℕ) : Type 0 where
  pub count : length ws ≡ max 1 (word_count n)
  pub padding : (i : ℕ) → n ≤ i → place ws i ≡ false

-- digit k of a word becomes b, and no other changes
pub record SetsDigit (old new k : ℕ) (b : Bool) : Type 0 where
  pub at : has_digit new k ≡ b
  pub others : (j : ℕ) → j < 64 → j ≢ k → has_digit new j ≡ has_digit old j

-- these digits of a word become b, and no other changes
pub record SetsDigits (old new digits : ℕ) (b : Bool) : Type 0 where
  pub at : (k : ℕ) → has_digit digits k ≡ true → has_digit new k ≡ b
  pub others : (k : ℕ) → has_digit digits k ≡ false → has_digit new k ≡ has_digit old k

-- there is room for a place more after n of them, and each place is as it was
pub record HasRoom (n : ℕ) (old new : List ℕ) : Type 0 where
  pub count : length new ≡ word_count (n + 1)
  pub same : (j : ℕ) → place new j ≡ place old j

-- after n places come 64 more: those of the word
pub record AppendsWord (n : ℕ) (old new : List ℕ) (word : ℕ) : Type 0 where
  pub count : length new ≡ word_count (n + 64)
  pub before : (j : ℕ) → j < n → place new j ≡ place old j
  pub after : (j : ℕ) → n ≤ j → place new j ≡ place (word ∷ []) (j - n)

-- each of the first n words has become what f makes of its index and of it
pub record Rewrites (f : ℕ → ℕ → ℕ) (old new : List ℕ) (n : ℕ) : Type 0 where
  pub count : length new ≡ length old
  pub done : (k : ℕ) → k < n → slice_index new k ≡ f k (slice_index old k)
  pub rest : (k : ℕ) → n ≤ k → slice_index new k ≡ slice_index old k

-- words laid over others from place n on, as far as place `end`: a place is true there where it was, or where the one
-- laid on it is
pub record Overlays (n : ℕ) (others old new : List ℕ) (end : ℕ) : Type 0 where
  pub count : length new ≡ length old
  pub before : (i : ℕ) → i < n → place new i ≡ place old i
  pub laid : (i : ℕ) → n ≤ i → i < end → place new i ≡ (place old i || place others (i - n))
  pub rest : (i : ℕ) → end ≤ i → place new i ≡ place old i

-- the digits of x are the places that are laid on word j, where words are laid from place n on
pub record IsLaid (n : ℕ) (others : List ℕ) (j x : ℕ) : Type 0 where
  pub below : (d : ℕ) → d < 64 → 64 * j + d < n → has_digit x d ≡ false
  pub above : (d : ℕ) → d < 64 → n ≤ 64 * j + d → has_digit x d ≡ place others (64 * j + d - n)

-- from place `start` on each place is n places higher than it was, and those before the first of all are false
pub record MovesUp (n : ℕ) (old new : List ℕ) (start : ℕ) : Type 0 where
  pub count : length new ≡ length old
  pub low : (i : ℕ) → start ≤ i → i < n → place new i ≡ false
  pub moved : (i : ℕ) → start ≤ i → i < 64 * length old → n ≤ i → place new i ≡ place old (i - n)
  pub rest : (i : ℕ) → i < start → place new i ≡ place old i

-- before place `end` each place is n places lower than it was
pub record MovesDown (n : ℕ) (old new : List ℕ) (end : ℕ) : Type 0 where
  pub count : length new ≡ length old
  pub moved : (i : ℕ) → i < end → place new i ≡ place old (i + n)
  pub rest : (i : ℕ) → end ≤ i → place new i ≡ place old i

-- the places from `start` on, before `end`, have become b as far as place `done`, and no other has changed
pub record SetsRange (start end : ℕ) (b : Bool) (old new : List ℕ) (done : ℕ) : Type 0 where
  pub count : length new ≡ length old
  pub inside : (i : ℕ) → start ≤ i → i < end → i < done → place new i ≡ b
  pub before : (i : ℕ) → i < start → place new i ≡ place old i
  pub behind : (i : ℕ) → end ≤ i → place new i ≡ place old i
  pub rest : (i : ℕ) → done ≤ i → place new i ≡ place old i

-- the first n places of both are the same
abbrev pub AlikeBelow : List ℕ → List ℕ → ℕ → Type 0
AlikeBelow words others n = (i : ℕ) → i < n → place words i ≡ place others i

-- at the first place that differs the words have this bit, and the others the contrary
abbrev pub IsDecided : List ℕ → List ℕ → Bool → Type 0
IsDecided words others bit =
    (i : ℕ) × AlikeBelow words others i × (place words i ≡ bit) × (place others i ≡ not bit)

-- the number without the digits that another has
abbrev pub without_digits : ℕ → ℕ → ℕ
without_digits a b = bit_xor a (bit_and a b)

-- the digits of word k that stand before place n
abbrev pub digits_before : ℕ → ℕ → ℕ
digits_before k n = 2 ^ min (n - 64 * k) 64 - 1

-- the digits of word k that stand from place `start` on, before place `end`
abbrev pub digits_between : ℕ → ℕ → ℕ → ℕ
digits_between k start end = without_digits (digits_before k end) (digits_before k start)

-- the digits that both numbers have, each with those of its mask turned round
abbrev pub common_digits : ℕ → ℕ → ℕ → ℕ → ℕ
common_digits a mask_a b mask_b = bit_and (bit_xor a mask_a) (bit_xor b mask_b)

-- f makes 0 of each word and the one at its place
abbrev pub MakesZeros : (ℕ → ℕ → ℕ) → List ℕ → List ℕ → Type 0
MakesZeros f words others = (k : ℕ) → k < length words → f (slice_index words k) (slice_index others k) ≡ 0
