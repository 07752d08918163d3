-- Fractions of whole numbers as decimal texts.
use Rattle.std.specs.Prelude.{ℕ, zero, suc, ◌+◌, ◌*◌, ◌/◌, ◌%◌, ◌^◌, ◌==◌, nat_lt, Bool, ◌&&◌, ◌||◌, List, [], ◌∷◌, ◌++◌, IsTrue, if◌then◌else◌, codes}
use Rattle.std.specs.Int.{abs_diff}
use Rattle.std.specs.Fmt.{decimal as digits_of}

-- n is less than a half away from a / b, or is even and a half away
abbrev pub is_nearest : ℕ → ℕ → ℕ → Bool
is_nearest a b n = let twice_off = 2 * abs_diff a (n * b) in nat_lt twice_off b || (twice_off == b && n % 2 == 0)

-- n is the whole number nearest to a / b, and of two equally near the even one
abbrev pub IsNearest : ℕ → ℕ → ℕ → Type 0
IsNearest a b n = IsTrue (is_nearest a b n)

-- the whole number nearest to a / b, which is its whole part or the number after that
abbrev pub rounded : ℕ → ℕ → ℕ
rounded a b = let whole = a / b in if is_nearest a b whole then whole else whole + 1

-- the last d decimal digits of n, as text
abbrev pub last_digits : ℕ → ℕ → List ℕ
last_digits zero n = []
last_digits (suc d) n = last_digits d (n / 10) ++ (48 + n % 10) ∷ []

-- a / b rounded to d decimals: its whole part, a point and d digits
abbrev pub decimal : ℕ → ℕ → ℕ → List ℕ
decimal a b d = let n = rounded (a * 10 ^ d) b in digits_of (n / 10 ^ d) ++ codes "." ++ last_digits d n

-- the same, where b may be 0: then there is no number
abbrev pub ratio : ℕ → ℕ → ℕ → List ℕ
ratio a b d = if b == 0 then codes "NaN" else decimal a b d

-- a number of nanoseconds, as seconds with d decimals
abbrev pub seconds : ℕ → ℕ → List ℕ
seconds nanos d = decimal nanos 1_000_000_000 d ++ codes "s"
