-- A text as lines, and a line as pieces.
use Rattle.std.specs.Prelude.{ℕ, ◌==◌, List, [], ◌∷◌, length, if◌then◌else◌}
use Rattle.std.specs.List.{slice_split}

-- the byte that ends a line
abbrev pub line_feed : ℕ
line_feed = 10

-- the byte that stands between two words
abbrev pub space : ℕ
space = 32

-- what stands between the places of a byte: "a b" has two pieces between its spaces, and "a " too
abbrev pub pieces : ℕ → List ℕ → List (List ℕ)
pieces byte text = slice_split (λ b. b == byte) text

-- all but an empty last piece
abbrev pub without_empty_last : List (List ℕ) → List (List ℕ)
without_empty_last [] = []
without_empty_last (last ∷ []) = if length last == 0 then [] else last ∷ []
without_empty_last (piece ∷ next ∷ more) = piece ∷ without_empty_last (next ∷ more)

-- the lines of a text: it is split at each line feed, a last line without one counts, and a line feed at the very end
-- begins no line
abbrev pub text_lines : List ℕ → List (List ℕ)
text_lines text = without_empty_last (pieces line_feed text)
