-- The texts of a list of booleans.
use Rattle.std.specs.Prelude.{◌≡◌, ◌≢◌, ◌↔◌, ℕ, zero, suc, ◌+◌, ◌-◌, ◌*◌, ◌/◌, ◌%◌, ◌==◌, ◌||◌, Bool, true, false, List, [], ◌∷◌, ◌++◌, map, reverse, length, codes, if◌then◌else◌}
use Rattle.std.specs.Fmt.{digit_glyph, digits}
use Rattle.giputils_bits.specs.Bits.{value_of, word_count, word_of}

-- `1` for true, `0` for false
abbrev pub bit_glyph : Bool → ℕ
bit_glyph true = 49
bit_glyph false = 48

-- one digit a place, the last place first; `[]` where there is none
abbrev pub binary_text : List Bool → List ℕ
binary_text [] = codes "[]"
binary_text (b ∷ bs) = map bit_glyph (reverse (b ∷ bs))

-- whether a byte is the digit 0 or 1
abbrev pub is_binary_digit : ℕ → Bool
is_binary_digit byte = (byte == 48) || (byte == 49)

-- the places that digits write, the last digit the first place
abbrev pub places_written : List ℕ → List Bool
places_written text = map (λ digit. digit == 49) (reverse text)

-- it is the binary text of no list
abbrev pub IsNoBinaryText : List ℕ → Type 0
IsNoBinaryText text = (bs : List Bool) → text ≢ binary_text bs

-- the n lowest digits of a number in the base, the highest of them first
abbrev pub lowest_digits : ℕ → ℕ → ℕ → List ℕ
lowest_digits base zero number = []
lowest_digits base (suc n) number = lowest_digits base n (number / base) ++ number % base ∷ []

-- the number that the last word is
abbrev pub last_word : List Bool → ℕ
last_word bs = word_of bs (word_count (length bs) - 1)

-- how many digits stand after `0x`: one where no place is true; else 16 for each word but the last, and for the last
-- one as many as its number has without leading zeros
abbrev pub hex_count : List Bool → ℕ
hex_count bs =
    if value_of bs == 0 then 1 else 16 * (word_count (length bs) - 1) + length (digits 16 false (last_word bs))

-- `0x` and digits whose value in base 16 is that of the list, with capital letters or small ones; `[]` where there is
-- no place
abbrev pub hex_text : Bool → List Bool → List ℕ
hex_text upper [] = codes "[]"
hex_text upper (b ∷ bs) =
    codes "0x" ++ map (digit_glyph upper) (lowest_digits 16 (hex_count (b ∷ bs)) (value_of (b ∷ bs)))

-- binary texts are equal exactly where the lists are
abbrev pub BinaryTextsTell : Type 0
BinaryTextsTell = (xs ys : List Bool) → (binary_text xs ≡ binary_text ys) ↔ (xs ≡ ys)

-- hexadecimal texts don't tell lists apart: these two have one text
abbrev pub HexTextsDoNotTell : Type 0
HexTextsDoNotTell =
    (upper : Bool) → (hex_text upper (true ∷ []) ≡ hex_text upper (true ∷ false ∷ [])) × (true ∷ [] ≢ true ∷ false ∷ [])
