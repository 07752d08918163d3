-- Sums of numbers that a ring holds.
use Rattle.std.specs.Prelude.{◌≡◌, ℕ, ◌+◌, ◌*◌, ◌^◌, ◌<◌, ◌≤◌, nat_le, List, [], ◌∷◌, length, sum}
use Rattle.std.specs.List.{list_all}
use Rattle.std.proofs.Common.{arith}
use Rattle.std.proofs.Math.Nat.{mul-le-mul_right}
use Rattle.std.proofs.lemmas.Bool.{and_parts}
use Rattle.std.proofs.lemmas.Bool.Decides.{nat_tests}
use Rattle.std.proofs.lemmas.List.Sums.{sum_by-cons}
use Rattle.giputils_stat.specs.Tally.{usize_max, AreNumbers}

-- each number is at most the greatest
pub sum-le : (xs : List ℕ) → AreNumbers xs → sum xs ≤ length xs * usize_max
sum-le [] numbers = omega arith
sum-le (x ∷ xs) numbers =
    let parts = and_parts (nat_le x usize_max) (list_all (λ n. nat_le n usize_max) xs) numbers in
    let first : x ≤ usize_max = grind (arith, nat_tests, parts.0) in
    let whole : sum (x ∷ xs) ≡ x + sum xs = sum_by-cons (λ n. n) x xs in
    omega (arith, whole, first, sum-le xs parts.1)

-- so a `u128` has room for their sum and one more
pub sum-fits : (xs : List ℕ) (c : ℕ) → length xs ≤ c → c < 2 ^ 63 → AreNumbers xs → sum xs < 2 ^ 127
sum-fits xs c within small numbers =
    let least = sum-le xs numbers in
    let few : length xs ≤ 2 ^ 63 = omega (arith, within, small) in
    let most : length xs * usize_max ≤ 2 ^ 63 * usize_max = mul-le-mul_right usize_max few in
    omega (arith, least, most)
