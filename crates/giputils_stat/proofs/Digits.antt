-- Decimal digits of a fixed number, and what a hole such as `{n:06}` writes.
use Rattle.std.specs.Prelude.{◌≡◌, ℕ, zero, suc, ◌+◌, ◌-◌, ◌*◌, ◌/◌, ◌%◌, ◌^◌, ◌<◌, List, [], ◌∷◌, ◌++◌, length, replicate, refl, false, ◌==◌}
use Rattle.std.specs.Fmt.{decimal as digits_of, padded_integral, format_spec, char_count, styled_decimal}
use Rattle.std.proofs.Common.{arith, ◌∙◌, inl, inr, add-one, length-append, append_assoc}
use Rattle.std.proofs.Math.Nat.{pow-suc}
use Rattle.std.proofs.lemmas.Bool.{cases_lt}
use Rattle.std.proofs.lemmas.Bool.Decides.{nat_tests}
use Rattle.std.proofs.lemmas.Fmt.{decimal_digit, decimal_step}
use Rattle.std.proofs.lemmas.List.{append-nil, replicate-append-replicate}
use Rattle.giputils_stat.specs.Decimals.{last_digits}

-- there are d of them
pub length-last_digits : (d n : ℕ) → length (last_digits d n) ≡ d
length-last_digits zero n = refl
length-last_digits (suc d) n = length-append (last_digits d (n / 10)) _ ∙ rw (length-last_digits d (n / 10)) (add-one d)

tenth : (whole unit n : ℕ) → ((whole * (unit * 10) + n) / 10 ≡ whole * unit + n / 10) × ((whole * (unit * 10) + n) % 10 ≡ n % 10)
tenth whole unit n = (omega arith, omega arith)

-- whole units leave them
pub last_digits-add : (d whole n : ℕ) → last_digits d (whole * 10 ^ d + n) ≡ last_digits d n
last_digits-add zero whole n = refl
last_digits-add (suc d) whole n =
    let t = tenth whole (10 ^ d) n in
    rw (pow-suc 10 d) (rw (t.0, t.1, last_digits-add d whole (n / 10)) refl)

-- of no digits but zeros
last_digits-zero : (d : ℕ) → last_digits d 0 ≡ replicate d 48
last_digits-zero zero = refl
last_digits-zero (suc d) = rw (last_digits-zero d, replicate-append-replicate {A = ℕ} d 1 48, add-one d) refl

-- a number of one digit
last_digits-digit : (d n : ℕ) → n < 10 → last_digits (suc d) n ≡ replicate (suc d - length (digits_of n)) 48 ++ digits_of n
last_digits-digit d n small =
    let none : n / 10 ≡ 0 = omega arith in
    let same : n % 10 ≡ n = omega arith in
    let rest : suc d - 1 ≡ d = omega arith in
    rw (decimal_digit n small, none, same, rest, last_digits-zero d) refl

-- one digit more behind both
one_more : (d x : ℕ) (front back : List ℕ) → front ≡ replicate (d - length back) 48 ++ back
    → front ++ x ∷ [] ≡ replicate (suc d - length (back ++ x ∷ [])) 48 ++ (back ++ x ∷ [])
one_more d x front back same =
    let long : suc d - length (back ++ x ∷ []) ≡ d - length back = omega (arith, length-append back (x ∷ [])) in
    rw (long, same) (append_assoc (replicate (d - length back) 48) back (x ∷ []))

-- they are the number's digits, after zeros
pub last_digits-small : (d n : ℕ) → n < 10 ^ suc d → n < 2 ^ 64 → last_digits (suc d) n ≡ replicate (suc d - length (digits_of n)) 48 ++ digits_of n
last_digits-small zero n small fits = last_digits-digit zero n (omega arith)
last_digits-small (suc d) n small fits =
    elim (cases_lt n 10) [
      | inl digit ↦ last_digits-digit (suc d) n digit
      | inr long ↦
          let shorter : n / 10 < 10 ^ suc d = omega (arith, pow-suc 10 (suc d)) in
          rw (decimal_step n long fits) (one_more (suc d) (48 + n % 10) _ _ (last_digits-small d (n / 10) shorter (omega arith)))
    ]

-- what `{n:0d$}` writes
pub styled_decimal-zeros : (d n : ℕ) → n < 10 ^ suc d → n < 2 ^ 64 → styled_decimal (format_spec 32 0 4 (suc d) (2 ^ 64 - 1)) n ≡ last_digits (suc d) n
unfolding padded_integral char_count
styled_decimal-zeros d n small fits =
    let wide : (suc d == 0) ≡ false = grind (arith, nat_tests) in
    let short : suc d - length (digits_of n) - 0 - 0 ≡ suc d - length (digits_of n) = omega arith in
    rw (last_digits-small d n small fits, wide, append-nil (digits_of n), short) refl
