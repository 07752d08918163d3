-- Options that are kept in one number.
use Rattle.std.specs.Prelude.{ℕ, Option, Some, None, ◌==◌, if◌then◌else◌}
use Rattle.giputils_vec.specs.declared.others.OptionU8.{OptionU8}
use Rattle.giputils_vec.specs.declared.others.OptionU32.{OptionU32}

-- the option that a number stands for: the greatest number is none, and any other number itself
abbrev pub option_of : ℕ → ℕ → Option ℕ
option_of greatest n = if n == greatest then None else Some n

-- the option that an `OptionU8` is
abbrev pub option_u8 : OptionU8 → Option ℕ
option_u8 o = option_of 255 o.0

-- the option that an `OptionU32` is
abbrev pub option_u32 : OptionU32 → Option ℕ
option_u32 o = option_of 4294967295 o.0

-- the `OptionU8` that is kept in this number
abbrev pub kept_u8 : ℕ → OptionU8
kept_u8 n = record { 0 = n }

-- the `OptionU32` that is kept in this number
abbrev pub kept_u32 : ℕ → OptionU32
kept_u32 n = record { 0 = n }
