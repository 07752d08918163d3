-- The differences of numbers that lists of literals are, and which of two is less.
use Rattle.std.proofs.Common.{◌≡◌, ⊎_elim, ℕ, suc, ◌+◌, ◌*◌, ◌^◌, ◌<◌, ◌≤◌, ◌++◌, ltb, Bool, true, false, not, cond, List, [], ◌∷◌, length, take, drop, get_or, IsTrue, add-zero, arith, refl, sym, ap, ◌∙◌}
use Rattle.std.specs.Bool.{beq}
use Rattle.std.proofs.Math.Nat.{add-mul, mul-add, two-pow-succ}
use Rattle.std.proofs.lemmas.Bool.{cases_lt, le-ltb, lt-ltb, ltb-true, ltb_from_iff}
use Rattle.std.proofs.lemmas.List.{get_or_past, length-take-le, length_push, take_all, take_more}
use Rattle.gipsat_cnf.specs.Prelude.{Assignment, Lit, is_true}
use Rattle.gipmc_circuits.specs.declared.circuit.Circuit.{Circuit}
use Rattle.gipmc_circuits.specs.Circuit.{is_valuation}
use Rattle.gipmc_builder.specs.Build.{GivesBorrow, GivesDifference, GivesDifferenceDigits, GivesLess, GivesMux, GivesXor, Keeps, bit_of, constant, number_of}
use Rattle.gipmc_builder.proofs.Built.{zero_false}
use Rattle.gipmc_builder.proofs.Numbers.{bit_small, is_true-constant, number_of-drop, number_of-end, number_over, number_over-push, number_over-split, number_over-zero, number_small}

borrow_of : (x y z : Bool) → cond (not (beq x y)) y z ≡ ltb (cond x 1 0) (cond y 1 0 + cond z 1 0)
borrow_of true true true = refl
borrow_of true true false = refl
borrow_of true false true = refl
borrow_of true false false = refl
borrow_of false true true = refl
borrow_of false true false = refl
borrow_of false false true = refl
borrow_of false false false = refl

-- the digit of a difference, and what it borrows
digit_of : (x y z : Bool)
    → cond (not (beq (not (beq x y)) z)) 1 0 + cond y 1 0 + cond z 1 0
    ≡ cond x 1 0 + 2 * cond (ltb (cond x 1 0) (cond y 1 0 + cond z 1 0)) 1 0
digit_of true true true = refl
digit_of true true false = refl
digit_of true false true = refl
digit_of true false false = refl
digit_of false true true = refl
digit_of false true false = refl
digit_of false false true = refl
digit_of false false false = refl

pub gives_borrow : (c d : Circuit) (x y z differ o : Lit) → GivesXor c x y differ → Keeps c d → GivesMux d differ y z o
    → GivesBorrow d x y z o
gives_borrow c d x y z differ o xor keeps mux a is =
    mux a is ∙ ap (λ b. cond b (is_true a y) (is_true a z)) (xor a (keeps.extends.valuations a is))
    ∙ borrow_of (is_true a x) (is_true a y) (is_true a z)

pub gives_difference_digits : (c d e : Circuit) (x y z half low high : Lit) → GivesXor c x y half → Keeps c d
    → GivesXor d half z low → Keeps d e → GivesBorrow e x y z high → GivesDifferenceDigits e x y z low high
gives_difference_digits c d e x y z half low high is_half to_d is_low to_e is_high a is =
    let in_d = to_e.extends.valuations a is in
    let in_c = to_d.extends.valuations a in_d in
    rw (is_high a is, is_low a in_d, is_half a in_c) (digit_of (is_true a x) (is_true a y) (is_true a z))

less_step : (n m x y z low high n' m' : ℕ) → n ≡ x + 2 * n' → m ≡ y + 2 * m' → low + y + z ≡ x + 2 * high → low < 2
    → ltb n' (m' + high) ≡ ltb n (m + z)
less_step n m x y z low high n' m' is also digits small =
    ltb_from_iff (
      λ yes. let less : n' < m' + high = ltb-true n' (m' + high) yes in omega (arith, is, also, digits, small, less),
      λ less. lt-ltb n' (m' + high) (omega (arith, is, also, digits, small, less)),
    )

-- what a comparison says so far: whether the digits that are left are less, with what the lower ones borrow
abbrev pub LessSoFar : Circuit → List Lit → List Lit → ℕ → Lit → Type 0
LessSoFar c xs ys i less =
    (a : Assignment) → IsTrue (is_valuation c a)
    → ltb (number_of a (drop i xs)) (number_of a (drop i ys) + bit_of a less) ≡ ltb (number_of a xs) (number_of a ys)

pub less_more : (c d : Circuit) (xs ys : List Lit) (i : ℕ) (x y less next : Lit)
    → x ≡ get_or xs i (constant false) → y ≡ get_or ys i (constant false) → LessSoFar c xs ys i less → Keeps c d
    → GivesBorrow d x y less next → LessSoFar d xs ys (i + 1) next
less_more c d xs ys i x y less next at_x at_y before keeps borrow a is =
    let none = zero_false d a is in
    let low = not (beq (not (beq (is_true a x) (is_true a y))) (is_true a less)) in
    let high = ltb (bit_of a x) (bit_of a y + bit_of a less) in
    ap (λ b. ltb (number_of a (drop (i + 1) xs)) (number_of a (drop (i + 1) ys) + cond b 1 0)) (borrow a is)
    ∙ less_step (number_of a (drop i xs)) (number_of a (drop i ys)) (bit_of a x) (bit_of a y) (bit_of a less) (cond low 1 0)
    (cond high 1 0) (number_of a (drop (i + 1) xs)) (number_of a (drop (i + 1) ys)) (number_of-drop a xs i x none at_x)
    (number_of-drop a ys i y none at_y) (digit_of (is_true a x) (is_true a y) (is_true a less)) (bit_small low)
    ∙ before a (keeps.extends.valuations a is)

last_borrow : (b : Bool) (n m : ℕ) → n ≡ 0 → m ≡ 0 → b ≡ ltb n (m + cond b 1 0)
last_borrow true n m left right = rw (left, right) refl
last_borrow false n m left right = rw (left, right) refl

pub less_all : (c : Circuit) (xs ys : List Lit) (i : ℕ) (less : Lit) → LessSoFar c xs ys i less
    → length xs ≤ i → length ys ≤ i → GivesLess c xs ys less
less_all c xs ys i less before left right a is =
    last_borrow (is_true a less) (number_of a (drop i xs)) (number_of a (drop i ys)) (number_of-end a xs i left)
    (number_of-end a ys i right)
    ∙ before a is

-- one digit more at the end
number_of-push : (a : Assignment) (zs : List Lit) (l : Lit)
    → number_of a (zs ++ l ∷ []) ≡ bit_of a l * 2 ^ length zs + number_of a zs
number_of-push a zs l =
    sym (number_over-zero a (zs ++ l ∷ [])) ∙ number_over-push a zs l 0 ∙ ap (number_over a zs) (add-zero (bit_of a l))
    ∙ number_over-split a zs (bit_of a l)

no_digit : (b : Bool) (p n k : ℕ) → b ≡ false → n ≡ k → n ≡ cond b 1 0 * p + k
no_digit b p n k low same = rw low (omega (arith, same))

-- the first digits and one more
number_of-take : (a : Assignment) (ls : List Lit) (i : ℕ) (l : Lit) → a 0 ≡ false → l ≡ get_or ls i (constant false)
    → number_of a (take (i + 1) ls) ≡ bit_of a l * 2 ^ i + number_of a (take i ls)
number_of-take a ls i l none at =
    ⊎_elim
    (λ less.
    ap (number_of a) (take_more ls i (constant false) less ∙ ap (λ m. take i ls ++ m ∷ []) (sym at))
    ∙ number_of-push a (take i ls) l
    ∙ ap (λ k. bit_of a l * 2 ^ k + number_of a (take i ls)) (length-take-le i ls (omega (arith, less))))
    (λ past.
    no_digit (is_true a l) (2 ^ i) (number_of a (take (i + 1) ls)) (number_of a (take i ls))
    (ap (is_true a) (at ∙ get_or_past ls i (constant false) past) ∙ is_true-constant a false none)
    (ap (number_of a) (take_all (i + 1) ls (omega (arith, past)) ∙ sym (take_all i ls past))))
    (cases_lt i (length ls))

difference_step : (low x y z high p d n m : ℕ) → d + m ≡ n + z * p → low + y + z ≡ x + 2 * high
    → (low * p + d) + (y * p + m) ≡ (x * p + n) + high * (p + p)
difference_step low x y z high p d n m is digits =
    let doubled : low + y + z ≡ x + (high + high) = omega (arith, digits) in
    let times : low * p + y * p + z * p ≡ x * p + (high * p + high * p) =
    sym (add-mul (low + y) z p ∙ ap (λ k. k + z * p) (add-mul low y p)) ∙ ap (λ k. k * p) doubled ∙ add-mul x (high + high) p
    ∙ ap (λ k. x * p + k) (add-mul high high p) in
    let both : high * (p + p) ≡ high * p + high * p = mul-add high p p in
    omega (arith, is, times, both)

-- what a difference has so far: its digits, and what they borrow
pub record DifferenceSoFar (c : Circuit) (xs ys : List Lit) (i : ℕ) (zs : List Lit) (borrow : Lit) : Type 0 where
  pub width : length zs ≡ i
  pub gives : (a : Assignment) → IsTrue (is_valuation c a)
      → number_of a zs + number_of a (take i ys) ≡ number_of a (take i xs) + bit_of a borrow * 2 ^ i

pub difference_more : (c d : Circuit) (xs ys zs : List Lit) (i : ℕ) (x y borrow low high : Lit)
    → x ≡ get_or xs i (constant false) → y ≡ get_or ys i (constant false) → DifferenceSoFar c xs ys i zs borrow → Keeps c d
    → GivesDifferenceDigits d x y borrow low high → DifferenceSoFar d xs ys (i + 1) (zs ++ low ∷ []) high
difference_more c d xs ys zs i x y borrow low high at_x at_y before keeps digits = record {
  width = length_push zs low ∙ ap (λ k. k + 1) before.width;
  gives = λ a is.
      let none = zero_false d a is in
      let pushed : number_of a (zs ++ low ∷ []) ≡ bit_of a low * 2 ^ i + number_of a zs =
      number_of-push a zs low ∙ ap (λ k. bit_of a low * 2 ^ k + number_of a zs) before.width in
      let left = number_of-take a xs i x none at_x in
      let right = number_of-take a ys i y none at_y in
      let next : i + 1 ≡ suc i = omega arith in
      let power : bit_of a high * 2 ^ (i + 1) ≡ bit_of a high * (2 ^ i + 2 ^ i) =
      ap (λ p. bit_of a high * p) (ap (λ k. 2 ^ k) next ∙ two-pow-succ i) in
      let step =
      difference_step (bit_of a low) (bit_of a x) (bit_of a y) (bit_of a borrow) (bit_of a high) (2 ^ i) (number_of a zs)
      (number_of a (take i xs)) (number_of a (take i ys)) (before.gives a (keeps.extends.valuations a is)) (digits a is) in
      ap (λ k. k + number_of a (take (i + 1) ys)) pushed
      ∙ ap (λ k. bit_of a low * 2 ^ i + number_of a zs + k) right
      ∙ step
      ∙ sym (ap (λ k. k + bit_of a high * 2 ^ (i + 1)) left ∙ ap (λ k. bit_of a x * 2 ^ i + number_of a (take i xs) + k) power);
}

-- where the last digit borrows, the one number is less
wrapped : (b : Bool) (d m n p : ℕ) → d + m ≡ n + cond b 1 0 * p → d < p → d + m ≡ n + cond (ltb n m) p 0
wrapped true d m n p is small =
    let same : d + m ≡ n + p = omega (arith, is) in
    same ∙ ap (λ b. n + cond b p 0) (sym (lt-ltb n m (omega (arith, same, small))))
wrapped false d m n p is small =
    let same : d + m ≡ n + 0 = omega (arith, is) in
    same ∙ ap (λ b. n + cond b p 0) (sym (le-ltb n m (omega (arith, same))))

pub difference_all : (c : Circuit) (xs ys zs : List Lit) (i : ℕ) (borrow : Lit) → DifferenceSoFar c xs ys i zs borrow
    → length xs ≤ i → length ys ≤ i → GivesDifference c xs ys zs
difference_all c xs ys zs i borrow before left right a is =
    wrapped (is_true a borrow) (number_of a zs) (number_of a ys) (number_of a xs) (2 ^ length zs)
    (sym (ap (λ ls. number_of a zs + number_of a ls) (take_all i ys right)) ∙ before.gives a is
    ∙ ap (λ ls. number_of a ls + bit_of a borrow * 2 ^ i) (take_all i xs left)
    ∙ ap (λ k. number_of a xs + bit_of a borrow * 2 ^ k) (sym before.width))
    (number_small a zs)
