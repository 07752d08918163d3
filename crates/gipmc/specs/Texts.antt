-- What is read of the bytes of a file: lines that end in two bytes end in one.
use Rattle.std.specs.Prelude.{◌≡◌, ℕ, ◌-◌, nat_eq, Bool, false, List, [], ◌∷◌, ◌++◌, length, take, codes, if◌then◌else◌}
use Rattle.std.specs.Prelude.{IfSome, Option}
use Rattle.std.specs.List.{ends_with, starts_with}
use Rattle.giputils_text.specs.Lines.{line_feed, text_lines}

-- the byte that may stand before the end of a line
abbrev pub carriage_return : ℕ
carriage_return = 13

-- whether a line ends in one
abbrev pub ends_in_return : List ℕ → Bool
ends_in_return line = ends_with nat_eq line (carriage_return ∷ [])

-- the line without it
abbrev pub without_return : List ℕ → List ℕ
without_return line = if ends_in_return line then take (length line - 1) line else line

-- whether lines have such, by the first of them; in the binary form of a circuit they have none
abbrev pub first_returns : List ℕ → Bool
first_returns first = if starts_with nat_eq first (codes "aig") then false else ends_in_return first

abbrev pub have_returns : List (List ℕ) → Bool
have_returns [] = false
have_returns (first ∷ lines) = first_returns first

-- the lines, each without a carriage return at its end, and with a line feed
abbrev pub with_feeds : List (List ℕ) → List ℕ
with_feeds [] = []
with_feeds (line ∷ lines) = without_return line ++ line_feed ∷ with_feeds lines

-- the text that is read of some bytes
abbrev pub text_read : List ℕ → List ℕ
text_read bytes = if have_returns (text_lines bytes) then with_feeds (text_lines bytes) else bytes

-- the text is the one that is read of a reader's bytes, where these are known
abbrev pub IsTextOf : Option (List ℕ) → List ℕ → Type 0
IsTextOf known text = IfSome known (λ bytes. text ≡ text_read bytes)
