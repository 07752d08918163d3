-- The text of a decimal, from its whole part and its decimals.
--
-- How it is proved: decimals of a fraction. Let a private function return the pair with `whole * 10^d + decimals ≡
-- rounded (a * 10^d) b` and `decimals < 10^d`.
use Rattle.std.specs.Prelude.{◌≡◌, ℕ, zero, suc, ◌+◌, ◌-◌, ◌*◌, ◌^◌, ◌<◌, ◌∷◌, ◌++◌, codes}
use Rattle.std.specs.Fmt.{decimal as digits_of, format_spec, styled_decimal}
use Rattle.std.proofs.Common.{arith, append_assoc, sym}
use Rattle.std.proofs.lemmas.Nat.{div-mul-add}
use Rattle.giputils_stat.specs.Decimals.{rounded, last_digits, decimal}
use Rattle.giputils_stat.proofs.Digits.{last_digits-add, styled_decimal-zeros}

pub decimal_from_parts : (a b d whole k : ℕ) → whole * 10 ^ d + k ≡ rounded (a * 10 ^ d) b → k < 10 ^ d
    → decimal a b d ≡ digits_of whole ++ 46 ∷ last_digits d k
decimal_from_parts a b d whole k parts small =
    rw (← parts, div-mul-add whole (10 ^ d) k small, last_digits-add d whole k) (append_assoc (digits_of whole) (codes ".") (last_digits d k))

-- what `{whole}.{k:0d$}` writes
pub written_decimal : (a b d whole k : ℕ) → 0 < d → whole * 10 ^ d + k ≡ rounded (a * 10 ^ d) b → k < 10 ^ d → k < 2 ^ 64
    → digits_of whole ++ 46 ∷ styled_decimal (format_spec 32 0 4 d (2 ^ 64 - 1)) k ≡ decimal a b d
written_decimal a b zero whole k some parts small fits = absurd (omega arith)
written_decimal a b (suc d) whole k some parts small fits =
    rw (styled_decimal-zeros d k small fits) (sym (decimal_from_parts a b (suc d) whole k parts small))
