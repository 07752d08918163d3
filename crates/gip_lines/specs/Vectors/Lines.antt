-- The lines of `gip bits`, each of which writes a list of bits.
use Rattle.std.specs.Prelude.{ℕ, ◌&&◌, Bool, List, [], length, nat_lt, if◌then◌else◌, codes, Option, Some, None}
use Rattle.std.specs.List.{list_all}
use Rattle.std.specs.Str.{bytes_eq}
use Rattle.giputils_bits.specs.Text.{is_binary_digit, places_written}
use Rattle.gip_lines.specs.Texts.{HasForm, said_in, first_other}

-- the bits that a line writes, where it has the form: `[]` writes none, and one or more digits `0` and `1` write one
-- each, the last bit first
abbrev pub bits_of_line : List ℕ → Option (List Bool)
bits_of_line line =
    if bytes_eq line (codes "[]") then Some []
    else if nat_lt 0 (length line) && list_all is_binary_digit line
    then Some (places_written line)
    else None

-- every line of a text has the form
abbrev pub AreBits : List ℕ → Type 0
AreBits text = HasForm bits_of_line text

-- the bits that each line of a text writes
abbrev pub bits_of_lines : List ℕ → List (List Bool)
bits_of_lines text = said_in bits_of_line text

-- the number of the first line of another form; lines count from 1
abbrev pub first_line_without_bits : List ℕ → Option ℕ
first_line_without_bits text = first_other bits_of_line text
