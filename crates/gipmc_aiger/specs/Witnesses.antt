-- Witnesses in HWMCC's form.
use Rattle.std.specs.Prelude.{ℕ, ◌==◌, ◌&&◌, ◌||◌, Bool, false, not, List, [], ◌∷◌, ◌++◌, length, map, filter, codes, Option, Some, None, if◌then◌else◌}
use Rattle.std.specs.declared.alloc.Global.{Global}
use Rattle.std.specs.declared.vec.Vec.{Vec}
use Rattle.std.specs.List.{list_all}
use Rattle.std.specs.Str.{byte}
use Rattle.gipmc_aiger.specs.Reading.{◌>>=◌, expected_at, number_at}
use Rattle.giputils_text.specs.Lines.{text_lines}

-- a line of which the witness says nothing: it begins with a `c` or a `u`
abbrev pub is_remark : List ℕ → Bool
is_remark [] = false
is_remark (first ∷ rest) = (first == byte "c") || (first == byte "u")

-- the lines of a text but for its remarks
abbrev pub said_lines : List ℕ → List (List ℕ)
said_lines text = filter (λ line. not (is_remark line)) (text_lines text)

-- the line `1`
abbrev pub is_status : List ℕ → Bool
is_status [] = false
is_status (first ∷ rest) = (first == byte "1") && (length rest == 0)

-- a line that begins with `.`
abbrev pub is_end : List ℕ → Bool
is_end [] = false
is_end (first ∷ rest) = first == byte "."

-- the byte is a value: `0`, `1`, or `x`
abbrev pub is_bit : ℕ → Bool
is_bit b = (b == byte "0") || (b == byte "1") || (b == byte "x")

-- so many values in a line; an `x` is false
abbrev pub bits_of : ℕ → List ℕ → Option (List Bool)
bits_of count line =
    if length line == count then (if list_all is_bit line then Some (map (λ b. b == 49) line) else None) else None

-- the lines behind the line `1`
abbrev pub status_at : List (List ℕ) → Option (List (List ℕ))
status_at [] = None
status_at (line ∷ lines) = if is_status line then Some lines else None

-- the property that a line names behind a `b`
abbrev pub property_of : List ℕ → Option ℕ
property_of line =
    expected_at (byte "b") line >>= λ digits. number_at 2147483647 digits >>= λ n.
    if length n.1 == 0 then Some n.0 else None

-- the property that the first line names, and the lines behind it
abbrev pub property_at : List (List ℕ) → Option (ℕ × List (List ℕ))
property_at [] = None
property_at (line ∷ lines) = property_of line >>= λ property. Some (property, lines)

-- so many values in the first line, and the lines behind it
abbrev pub bits_at : ℕ → List (List ℕ) → Option (List Bool × List (List ℕ))
bits_at count [] = None
bits_at count (line ∷ lines) = bits_of count line >>= λ bits. Some (bits, lines)

-- so many values in each line up to one that begins with `.`
abbrev pub frames_of : ℕ → List (List ℕ) → Option (List (List Bool))
frames_of count [] = None
frames_of count (line ∷ lines) =
    if is_end line then Some []
    else (bits_of count line >>= λ frame. frames_of count lines >>= λ frames. Some (frame ∷ frames))

-- a property, the latches at first, and the inputs at each moment
pub record Stimulus : Type 0 where
  pub property : ℕ
  pub latches : List Bool
  pub inputs : List (List Bool)

-- the witness that some lines write for so many latches and inputs
unfoldable pub stimulus_of : ℕ → ℕ → List (List ℕ) → Option Stimulus
stimulus_of latches inputs lines = do
  rest ← status_at lines
  property ← property_at rest
  bits ← bits_at latches property.1
  frames ← frames_of inputs bits.1
  Some (record { property = property.0; latches = bits.0; inputs = frames })

-- the witness that a text writes for so many latches and inputs, if it has the form
abbrev pub witness_of : ℕ → ℕ → List ℕ → Option Stimulus
witness_of latches inputs text = stimulus_of latches inputs (said_lines text)

-- some lists without where they lie in memory
abbrev pub frames_view : List (Vec Bool Global) → List (List Bool)
frames_view frames = map (λ frame. frame.items) frames

-- a value in a text
abbrev pub bit_text : Bool → List ℕ
bit_text bit = if bit then codes "1" else codes "0"

-- a line of values
abbrev pub bits_line : List Bool → List ℕ
bits_line [] = codes "\n"
bits_line (bit ∷ bits) = bit_text bit ++ bits_line bits

-- a line for each moment, and the line `.`
abbrev pub frames_lines : List (Vec Bool Global) → List ℕ
frames_lines [] = codes ".\n"
frames_lines (frame ∷ frames) = bits_line frame.items ++ frames_lines frames
