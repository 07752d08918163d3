-- The whole number nearest to a fraction: which it is, that there is one alone, and how it moves with whole numbers.
--
-- How it is proved: nearest. A goal on the nearest integer closes by `omega` once `m * b` is a variable or multiplied
-- out. Uniqueness is by `cases_lt` and two lemmas without products.
use Rattle.std.specs.Prelude.{◌≡◌, ℕ, zero, suc, ◌+◌, ◌*◌, ◌/◌, ◌%◌, ◌^◌, ◌<◌, ◌≤◌, false, refl}
use Rattle.std.specs.Int.{abs_diff}
use Rattle.std.proofs.Common.{arith, inl, inr}
use Rattle.std.proofs.Math.Nat.{mul-le-mul_left, mul-le-mul_right, pow-suc}
use Rattle.std.proofs.lemmas.Bool.{cases_lt, cases_Bool}
use Rattle.std.proofs.lemmas.Bool.Decides.{nat_tests}
use Rattle.std.proofs.lemmas.Nat.{div-add-mod', mod_below}
use Rattle.giputils_stat.specs.Decimals.{is_nearest, IsNearest, rounded}

-- it is at most a half away, and even where it is a half away
pub half_away : (a b n : ℕ) → IsNearest a b n → (2 * abs_diff a (n * b) ≤ b) × (2 * abs_diff a (n * b) ≡ b → n % 2 ≡ 0)
half_away a b n nearest = (grind (arith, nat_tests), λ tie. grind (arith, nat_tests))

-- and what is so is nearest
pub nearest_from : (a b n : ℕ) → 2 * abs_diff a (n * b) ≤ b → (2 * abs_diff a (n * b) ≡ b → n % 2 ≡ 0) → IsNearest a b n
nearest_from a b n near even = grind (arith, nat_tests)

-- what is not nearest is at least a half away, and odd where it is a half away
beyond_half : (a b n : ℕ) → is_nearest a b n ≡ false → (b ≤ 2 * abs_diff a (n * b)) × (2 * abs_diff a (n * b) ≡ b → n % 2 ≡ 1)
beyond_half a b n not_nearest = (grind (arith, nat_tests), λ tie. grind (arith, nat_tests))

-- a whole number more than one further is too far away
not_two_further : (a b p q : ℕ) → 0 < b → p + b + b ≤ q → 2 * abs_diff a p ≤ b → 2 * abs_diff a q ≤ b → ⊥
not_two_further a b p q pos far near near' = omega arith

-- of a number and the next, one alone is even, and both can be near at a tie alone
not_next : (a b m p : ℕ) → 0 < b → 2 * abs_diff a p ≤ b → (2 * abs_diff a p ≡ b → m % 2 ≡ 0)
    → 2 * abs_diff a (p + b) ≤ b → (2 * abs_diff a (p + b) ≡ b → (m + 1) % 2 ≡ 0) → ⊥
not_next a b m p pos near even near' even' =
    let tie : 2 * abs_diff a p ≡ b = omega arith in
    let tie' : 2 * abs_diff a (p + b) ≡ b = omega arith in
    let left : m % 2 ≡ 0 = even tie in
    let right : (m + 1) % 2 ≡ 0 = even' tie' in
    omega arith

-- of two numbers that are nearest, neither is below the other
not_below : (a b m n : ℕ) → 0 < b → m < n → IsNearest a b m → IsNearest a b n → ⊥
not_below a b m n pos below left right =
    let l = half_away a b m left in
    let r = half_away a b n right in
    elim (cases_lt (m + 1) n) [
      | inl far ↦
          let more : (m + 2) * b ≤ n * b = mul-le-mul_right b (omega arith) in
          not_two_further a b (m * b) (n * b) pos (omega arith) l.0 r.0
      | inr near ↦
          let next : n ≡ m + 1 = omega arith in
          let moved : IsNearest a b (m + 1) = rw next at right in
          let n2 = half_away a b (m + 1) moved in
          not_next a b m (m * b) pos l.0 l.1 (omega (arith, n2.0)) (λ tie. n2.1 (omega arith))
    ]

-- there is one nearest alone
pub one_nearest : (a b m n : ℕ) → 0 < b → IsNearest a b m → IsNearest a b n → m ≡ n
one_nearest a b m n pos left right =
    elim (cases_lt m n) [
      | inl below ↦ absurd (not_below a b m n pos below left right)
      | inr above ↦
          elim (cases_lt n m) [
            | inl below ↦ absurd (not_below a b n m pos below right left)
            | inr same ↦ omega arith
          ]
    ]

-- where the whole part is not nearest, the next number is
next_is_nearest : (a b w r : ℕ) → a ≡ w * b + r → r < b → is_nearest a b w ≡ false → IsNearest a b (w + 1)
next_is_nearest a b w r split small not_nearest =
    let far = beyond_half a b w not_nearest in
    nearest_from a b (w + 1) (omega arith) (λ tie. let odd : w % 2 ≡ 1 = far.1 (omega arith) in omega arith)

pub rounded_is_nearest : (a b : ℕ) → 0 < b → IsNearest a b (rounded a b)
rounded_is_nearest a b pos =
    elim (cases_Bool (is_nearest a b (a / b))) [
      | inl whole ↦ rw whole whole
      | inr next ↦ rw next (next_is_nearest a b (a / b) (a % b) (omega (arith, div-add-mod' a b)) (mod_below a b pos) next)
    ]

-- moved by an even whole number, a fraction has the nearest moved by as much
pub IsNearest-add : (a b n whole : ℕ) → whole % 2 ≡ 0 → IsNearest a b n → IsNearest (whole * b + a) b (whole + n)
IsNearest-add a b n whole even nearest =
    let near = half_away a b n nearest in
    nearest_from (whole * b + a) b (whole + n) (omega arith) (λ tie. let e = near.1 (omega arith) in omega arith)

pub rounded-add : (a b whole : ℕ) → 0 < b → whole % 2 ≡ 0 → rounded (whole * b + a) b ≡ whole + rounded a b
rounded-add a b whole pos even =
    one_nearest (whole * b + a) b _ _ pos (rounded_is_nearest (whole * b + a) b pos)
    (IsNearest-add a b (rounded a b) whole even (rounded_is_nearest a b pos))

pub rounded-zero : (b : ℕ) → 0 < b → rounded 0 b ≡ 0
rounded-zero b pos = one_nearest 0 b (rounded 0 b) 0 pos (rounded_is_nearest 0 b pos) (nearest_from 0 b 0 (omega arith) (λ _. refl))

-- with a rest of more than a half, the next number is nearest
pub next_from_rest : (a b : ℕ) → 0 < b → b < 2 * (a % b) → IsNearest a b (a / b + 1)
next_from_rest a b pos more =
    let split = div-add-mod' a b in
    let small = mod_below a b pos in
    nearest_from a b (a / b + 1) (omega arith) (λ tie. absurd (omega arith))

-- a fraction below a whole number is rounded to it at most
pub rounded-le : (r b unit : ℕ) → r < b → rounded (r * unit) b ≤ unit
rounded-le r b unit small =
    elim (cases_lt unit (rounded (r * unit) b)) [
      | inl above ↦
          let near = half_away (r * unit) b (rounded (r * unit) b) (rounded_is_nearest (r * unit) b (omega arith)) in
          let far : (unit + 1) * b ≤ rounded (r * unit) b * b = mul-le-mul_right b (omega arith) in
          let less : r * unit ≤ b * unit = mul-le-mul_right unit (omega arith) in
          absurd (too_far (rounded (r * unit) b) (r * unit) b unit (omega arith) far less near.0)
      | inr within ↦ within
    ]
  where
    too_far : (n p b u : ℕ) → 0 < b → (u + 1) * b ≤ n * b → p ≤ b * u → 2 * abs_diff p (n * b) ≤ b → ⊥
    too_far n p b u pos far less near = omega arith

-- a unit of decimals is even
even_unit : (d whole : ℕ) → 0 < d → whole * 10 ^ d % 2 ≡ 0
even_unit zero whole some = absurd (omega arith)
even_unit (suc d) whole some = rw (pow-suc 10 d) (omega arith)

in_units : (a b whole rest unit : ℕ) → whole * b + rest ≡ a → whole * unit * b + rest * unit ≡ a * unit
in_units a b whole rest unit split = rw (← split) (omega arith)

-- a fraction in units of d decimals, by its whole part and its rest
pub rounded-split : (a b d : ℕ) → 0 < b → 0 < d → rounded (a * 10 ^ d) b ≡ a / b * 10 ^ d + rounded (a % b * 10 ^ d) b
rounded-split a b d pos some =
    rw (← in_units a b (a / b) (a % b) (10 ^ d) (div-add-mod' a b))
    (rounded-add (a % b * 10 ^ d) b (a / b * 10 ^ d) pos (even_unit d (a / b) some))

-- where the decimals are rounded to a whole unit, the division left a rest
pub whole_below : (a b unit : ℕ) → 0 < b → 0 < unit → unit ≤ rounded (a % b * unit) b → a / b + 1 ≤ a
whole_below a b unit pos some carry =
    elim (cases_lt 0 (a % b)) [
      | inl rest ↦
          let split = div-add-mod' a b in
          let whole : a / b * 1 ≤ a / b * b = mul-le-mul_left (a / b) (omega arith) in
          omega arith
      | inr none ↦
          let exact : a % b ≡ 0 = omega arith in
          let zero_units : a % b * unit ≡ 0 = rw exact (omega arith) in
          let nothing : rounded (a % b * unit) b ≡ 0 = rw zero_units (rounded-zero b pos) in
          absurd (omega arith)
    ]
