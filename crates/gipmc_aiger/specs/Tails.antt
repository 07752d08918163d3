-- What may stand behind the gates: symbols, and a comment.
use Rattle.std.specs.Prelude.{◌≡◌, ℕ, ◌==◌, ◌&&◌, Bool, true, false, not, List, [], ◌∷◌, Option, Some, None, is_some, Result, Ok, Err, nat_lt, if◌then◌else◌}
use Rattle.std.specs.Char.{is_ascii_digit}
use Rattle.std.specs.Str.{byte}
use Rattle.gipmc_aiger.specs.declared.header.Header.{Header}
use Rattle.gipmc_aiger.specs.declared.error.Stop.{Stop}
use Rattle.gipmc_aiger.specs.declared.error.Stop.TheVariants as stop
use Rattle.gipmc_aiger.specs.Reading.{◌>>=◌, expected_at, number_at}
use Rattle.giputils_text.specs.Lines.{text_lines}

-- a digit stands at the front
abbrev pub begins_number : List ℕ → Bool
begins_number [] = false
begins_number (first ∷ rest) = is_ascii_digit first

-- a comment begins with this line: a `c` without a number
abbrev pub begins_comment : List ℕ → Bool
begins_comment [] = false
begins_comment (first ∷ rest) = (first == byte "c") && not (begins_number rest)

-- how many rows of a kind the header has: `i` for inputs, `l`, `o`, `b`, `c` for constraints, `j` and `f`
abbrev pub count_of : Header → ℕ → ℕ
count_of h kind =
    if kind == byte "i" then h.sizes.inputs else if kind == byte "l" then h.sizes.latches
    else if kind == byte "o" then h.sizes.outputs else if kind == byte "b" then h.bads
    else if kind == byte "c" then h.constraints else if kind == byte "j" then h.justice
    else if kind == byte "f" then h.fairness else 0

-- the name that a line gives to a row, behind its kind, its place and a space
abbrev pub name_at : ℕ → List ℕ → Option (List ℕ)
name_at count bytes =
    number_at 2147483647 bytes >>= λ place. expected_at 32 place.1 >>= λ name.
    if nat_lt place.0 count then Some name else None

abbrev pub symbol_at : Header → List ℕ → Option (List ℕ)
symbol_at h [] = None
symbol_at h (kind ∷ rest) = name_at (count_of h kind) rest

-- these lines are symbols up to a comment or the end
abbrev pub are_symbols : Header → List (List ℕ) → Bool
are_symbols h [] = true
are_symbols h (line ∷ lines) =
    if begins_comment line then true else is_some (symbol_at h line) && are_symbols h lines

-- nothing but symbols and a comment
abbrev pub is_tail : Header → List ℕ → Bool
is_tail h bytes = are_symbols h (text_lines bytes)

-- what a function answers is whether a test holds, unless memory is refused
abbrev pub Tells : {X : Type 0} → Result X Stop → Bool → Type 0
Tells (Ok x) test = test ≡ true
Tells (Err stop.Memory) test = Unit {0}
Tells (Err (stop.Refused reason left)) test = test ≡ false
