-- A number in decimal digits, by its last digit.
use Rattle.std.proofs.Common.{◌≡◌, ℕ, ◌+◌, ◌/◌, ◌%◌, ◌<◌, ◌≤◌, ◌^◌, List, [], ◌∷◌, ◌++◌, decimal, arith}
use Rattle.std.proofs.lemmas.Fmt.{decimal_step, decimal_digit}
use Rattle.std.proofs.lemmas.List.{append_assoc}

-- a digit alone
pub one_digit : (before after : List ℕ) (n : ℕ) → n < 10 → after ≡ before ++ ((48 + n % 10) ∷ []) → after ≡ before ++ decimal n
one_digit before after n small is = let same : n % 10 ≡ n = omega arith in rw (is, same, decimal_digit n small)

-- the digits before the last one, and then that
pub digits_and_last : (before mid after : List ℕ) (n : ℕ) → 10 ≤ n → n < 2 ^ 64
    → mid ≡ before ++ decimal (n / 10) → after ≡ mid ++ ((48 + n % 10) ∷ []) → after ≡ before ++ decimal n
digits_and_last before mid after n great small front last = rw (last, front, decimal_step n great small, append_assoc)
