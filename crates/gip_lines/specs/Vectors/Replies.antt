-- What `gip bits` answers, over lists of bits. It knows nothing of a vector.
use Rattle.std.specs.Prelude.{◌≡◌, ◌↔◌, ℕ, Bool, false, List, [], ◌∷◌, ◌++◌, length, decimal, Some}
use Rattle.std.specs.List.{flat_map}
use Rattle.giputils_bits.specs.Text.{binary_text, hex_text}
use Rattle.gip_lines.specs.Vectors.Lines.{bits_of_line}
use Rattle.giputils_text.specs.Lines.{line_feed, space}

-- the reply to a line that writes these bits: their binary text, their hexadecimal text and their number
abbrev pub bits_reply : List Bool → List ℕ
bits_reply bits = binary_text bits ++ space ∷ hex_text false bits ++ space ∷ decimal (length bits)

-- the text of some lines that write bits: a reply for each, with a line feed
abbrev pub bits_text : List (List Bool) → List ℕ
bits_text lines = flat_map (λ bits. bits_reply bits ++ line_feed ∷ []) lines

-- a line writes some bits exactly where it is their binary text
abbrev pub LinesAreBinaryTexts : Type 0
LinesAreBinaryTexts = (line : List ℕ) (bits : List Bool) → (bits_of_line line ≡ Some bits) ↔ (line ≡ binary_text bits)
