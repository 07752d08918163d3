-- A number in decimal digits.
use Rattle.std.specs.Prelude.{ℕ, ◌^◌, ◌&&◌, List, length, nat_lt, nat_le, if◌then◌else◌, Option, Some, None}
use Rattle.std.specs.Str.{all_ascii_digits}
use Rattle.std.specs.Str.Parse.{digits_value, without_leading_plus}

-- the number that a word of decimal digits alone writes, up to a greatest one
abbrev pub number_up_to : ℕ → List ℕ → Option ℕ
number_up_to greatest word =
    if nat_lt 0 (length word) && all_ascii_digits word && nat_le (digits_value 10 word) greatest
    then Some (digits_value 10 word) else None

-- the number below 2^64 that a word writes in decimal digits; a plus may stand before them
abbrev pub number_of : List ℕ → Option ℕ
number_of word =
    let digits = without_leading_plus word in
    if nat_lt 0 (length digits) && all_ascii_digits digits && nat_lt (digits_value 10 digits) (2 ^ 64)
    then Some (digits_value 10 digits) else None
