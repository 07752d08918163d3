-- Numbers in groups of 7 bits.
use Rattle.std.proofs.Common.{◌≡◌, ◌<◌, ◌≤◌, ℕ, zero, suc, ◌+◌, ◌*◌, ◌/◌, ◌%◌, List, [], ◌∷◌, ◌++◌, sym, append_assoc, arith}
use Rattle.std.proofs.Math.Nat.{div-lt_iff_lt-mul}
use Rattle.std.proofs.lemmas.Bool.Decides.{nat_tests}
use Rattle.giputils_text.specs.Groups.{groups}

-- a group, and so many more, hold the numbers below this one
abbrev pub limit : ℕ → ℕ
limit zero = 128
limit (suc more) = limit more * 128

-- a group, and those that follow it
pub groups_more : (more n : ℕ) → 128 ≤ n → n < limit more
    → (fewer : ℕ) × (n / 128 < limit fewer) × (groups more n ≡ (128 + n % 128) ∷ groups fewer (n / 128))
groups_more zero n great small = absurd (omega arith)
groups_more (suc more) n great small = (more, (div-lt_iff_lt-mul {k = 128} (omega arith)).1 small, grind (arith, nat_tests))

-- what was written with a group more, and the groups that follow it, are all
pub groups_pushed : (all text text' : List ℕ) (more n : ℕ) → 128 ≤ n → n < limit more → all ≡ text ++ groups more n
    → text' ≡ text ++ (128 + n % 128) ∷ [] → (fewer : ℕ) × (n / 128 < limit fewer) × (all ≡ text' ++ groups fewer (n / 128))
groups_pushed all text text' more n great small so_far pushed =
    let (fewer, fits, is) = groups_more more n great small in
    let all_is : all ≡ text' ++ groups fewer (n / 128) =
    rw (so_far, is, pushed) (sym (append_assoc text ((128 + n % 128) ∷ []) (groups fewer (n / 128))))
    in
    (fewer, fits, all_is)
