-- The input as a whole.
use Rattle.std.specs.Prelude.{ℕ, ◌<◌, ◌≤◌, List, length, Option, IfSome}

-- the greatest number of bytes in an input
abbrev pub input_limit : ℕ
input_limit = 1048576

-- an input is not too long
abbrev pub Fits : List ℕ → Type 0
Fits input = length input ≤ input_limit

-- what a reader has left is more than an input may have, where it is known
abbrev pub IsTooLong : Option (List ℕ) → Type 0
IsTooLong remaining = IfSome remaining (λ input. input_limit < length input)
