-- Words spelt in digits. Only this crate's own functions speak of it.
use Rattle.std.specs.Prelude.{ℕ, Bool, List, [], ◌∷◌, ◌++◌, map}
use Rattle.std.specs.Fmt.{digit_glyph}
use Rattle.giputils_bits.specs.Text.{lowest_digits}

-- the digits of the words from the last to the first, n of each in the base
abbrev pub digits_of_words : ℕ → ℕ → List ℕ → List ℕ
digits_of_words base n [] = []
digits_of_words base n (w ∷ ws) = digits_of_words base n ws ++ lowest_digits base n w

-- those digits as characters, with capital letters or small ones
abbrev pub words_text : Bool → ℕ → ℕ → List ℕ → List ℕ
words_text upper base n ws = map (digit_glyph upper) (digits_of_words base n ws)
