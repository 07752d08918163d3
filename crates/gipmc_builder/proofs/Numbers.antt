-- The numbers that lists of literals are, digit by digit.
use Rattle.std.proofs.Common.{◌≡◌, ⊎_elim, ℕ, zero, suc, ◌+◌, ◌*◌, ◌^◌, ◌%◌, ◌/◌, ◌<◌, ◌≤◌, ◌&&◌, ◌++◌, ◌==◌, Bool, true, false, cond, List, [], ◌∷◌, Some, length, take, drop, get_or, IsTrue, arith, refl, sym, ap, ◌∙◌}
use Rattle.std.specs.Bool.{beq}
use Rattle.std.specs.Cmp.{booleans_Decides, both_ways}
use Rattle.std.proofs.Math.Nat.{div-add-mod, mul-add, two-pow-succ}
use Rattle.std.proofs.lemmas.Bool.{cases_lt, eqb-true, eq-eqb, false≢true}
use Rattle.std.proofs.lemmas.List.{drop_all, drop_more, get_or_past, take_all, take_more}
use Rattle.std.proofs.lemmas.Nat.{mod-mul-add}
use Rattle.gipsat_cnf.specs.Prelude.{Assignment, Lit, is_true}
use Rattle.gipmc_circuits.specs.declared.circuit.Circuit.{Circuit}
use Rattle.gipmc_circuits.specs.Circuit.{is_initial, is_transition, is_valuation}
use Rattle.gipmc_builder.specs.Build.{AddsLatches, AreDigits, Becomes, GivesAnd, GivesChoice, GivesDigits, GivesEqual, GivesMux, GivesSum, Keeps, StartsAs, StartsAt, Takes, bit_of, constant, number_of}
use Rattle.gipmc_builder.proofs.Built.{zero_false}

-- the number of the literals' digits, with another number behind the last one
abbrev pub number_over : Assignment → List Lit → ℕ → ℕ
number_over a [] n = n
number_over a (l ∷ ls) n = bit_of a l + 2 * number_over a ls n

pub number_over-push : (a : Assignment) (ls : List Lit) (l : Lit) (n : ℕ)
    → number_over a (ls ++ l ∷ []) n ≡ number_over a ls (bit_of a l + 2 * n)
number_over-push a [] l n = refl
number_over-push a (m ∷ ls) l n = ap (λ k. bit_of a m + 2 * k) (number_over-push a ls l n)

pub number_over-zero : (a : Assignment) (ls : List Lit) → number_over a ls 0 ≡ number_of a ls
number_over-zero a [] = refl
number_over-zero a (l ∷ ls) = ap (λ k. bit_of a l + 2 * k) (number_over-zero a ls)

pub bit_small : (value : Bool) → cond value 1 0 < 2
bit_small true = omega arith
bit_small false = omega arith

doubled : (b n k : ℕ) → b < 2 → n < 2 ^ k → b + 2 * n < 2 ^ suc k
doubled b n k bit less =
    let next : 2 ^ suc k ≡ 2 ^ k + 2 ^ k = two-pow-succ k in omega (arith, next, bit, less)

-- with k digits a number is below 2^k
pub number_small : (a : Assignment) (ls : List Lit) → number_of a ls < 2 ^ length ls
number_small a [] = omega arith
number_small a (l ∷ ls) =
    doubled (bit_of a l) (number_of a ls) (length ls) (bit_small (is_true a l)) (number_small a ls)

shifted_once : (b n m s k : ℕ) → s ≡ n * 2 ^ k + m → b + 2 * s ≡ n * 2 ^ suc k + (b + 2 * m)
shifted_once b n m s k is =
    let next : n * 2 ^ suc k ≡ n * 2 ^ k + n * 2 ^ k = ap (λ p. n * p) (two-pow-succ k) ∙ mul-add n (2 ^ k) (2 ^ k) in
    omega (arith, next, is)

pub number_over-split : (a : Assignment) (ls : List Lit) (n : ℕ) → number_over a ls n ≡ n * 2 ^ length ls + number_of a ls
number_over-split a [] n = omega arith
number_over-split a (l ∷ ls) n =
    shifted_once (bit_of a l) n (number_of a ls) (number_over a ls n) (length ls) (number_over-split a ls n)

-- the digits are those of the whole, as far as there are
pub number_over-mod : (a : Assignment) (ls : List Lit) (n m : ℕ) → number_over a ls n ≡ m → number_of a ls ≡ m % 2 ^ length ls
number_over-mod a ls n m is =
    sym (ap (λ k. k % 2 ^ length ls) (sym is ∙ number_over-split a ls n)
    ∙ mod-mul-add n (2 ^ length ls) (number_of a ls) (number_small a ls))

-- the literal that is always this
pub is_true-constant : (a : Assignment) (value : Bool) → a 0 ≡ false → is_true a (constant value) ≡ value
is_true-constant a true none = ap (λ v. beq v false) none
is_true-constant a false none = ap (λ v. beq v true) none

past_end : (a : Assignment) (ls rest : List Lit) (l : Lit) → a 0 ≡ false → ls ≡ [] → rest ≡ [] → l ≡ constant false
    → number_of a ls ≡ bit_of a l + 2 * number_of a rest
past_end a ls rest l none here next last = rw (here, next, last, is_true-constant a false none) refl

-- from a place on: the digit there, and the rest
pub number_of-drop : (a : Assignment) (ls : List Lit) (i : ℕ) (l : Lit) → a 0 ≡ false → l ≡ get_or ls i (constant false)
    → number_of a (drop i ls) ≡ bit_of a l + 2 * number_of a (drop (i + 1) ls)
number_of-drop a ls i l none at =
    ⊎_elim
    (λ less. ap (number_of a) (drop_more ls i (constant false) less) ∙ ap (λ m. bit_of a m + 2 * number_of a (drop (i + 1) ls)) (sym at))
    (λ past. past_end a (drop i ls) (drop (i + 1) ls) l none (drop_all i ls past) (drop_all (i + 1) ls (omega (arith, past)))
    (at ∙ get_or_past ls i (constant false) past))
    (cases_lt i (length ls))

-- behind all digits nothing is left
pub number_of-end : (a : Assignment) (ls : List Lit) (i : ℕ) → length ls ≤ i → number_of a (drop i ls) ≡ 0
number_of-end a ls i past = ap (number_of a) (drop_all i ls past)

-- what a sum has so far: its digits, and what is left with the carry behind them
abbrev pub SumSoFar : Circuit → List Lit → List Lit → ℕ → List Lit → Lit → Type 0
SumSoFar c xs ys i zs carry =
    (a : Assignment) → IsTrue (is_valuation c a)
    → number_over a zs (number_of a (drop i xs) + number_of a (drop i ys) + bit_of a carry) ≡ number_of a xs + number_of a ys

carried : (n m x y z low high n' m' : ℕ) → n ≡ x + 2 * n' → m ≡ y + 2 * m' → low + 2 * high ≡ x + y + z
    → low + 2 * (n' + m' + high) ≡ n + m + z
carried n m x y z low high n' m' is also digits = omega (arith, is, also, digits)

pub sum_more : (c d : Circuit) (xs ys zs : List Lit) (i : ℕ) (x y carry low high : Lit)
    → x ≡ get_or xs i (constant false) → y ≡ get_or ys i (constant false) → SumSoFar c xs ys i zs carry → Keeps c d
    → GivesDigits d x y carry low high → SumSoFar d xs ys (i + 1) (zs ++ low ∷ []) high
sum_more c d xs ys zs i x y carry low high at_x at_y before keeps digits a is =
    let none = zero_false d a is in
    number_over-push a zs low (number_of a (drop (i + 1) xs) + number_of a (drop (i + 1) ys) + bit_of a high)
    ∙ ap (number_over a zs)
    (carried (number_of a (drop i xs)) (number_of a (drop i ys)) (bit_of a x) (bit_of a y) (bit_of a carry) (bit_of a low)
    (bit_of a high) (number_of a (drop (i + 1) xs)) (number_of a (drop (i + 1) ys)) (number_of-drop a xs i x none at_x)
    (number_of-drop a ys i y none at_y) (digits a is))
    ∙ before a (keeps.extends.valuations a is)

last_carry : (n m b : ℕ) → n ≡ 0 → m ≡ 0 → b + 2 * 0 ≡ n + m + b
last_carry n m b none also = omega (arith, none, also)

pub sum_all : (c : Circuit) (xs ys zs : List Lit) (i : ℕ) (carry : Lit) → SumSoFar c xs ys i zs carry
    → length xs ≤ i → length ys ≤ i → GivesSum c xs ys (zs ++ carry ∷ [])
sum_all c xs ys zs i carry before left right a is =
    sym (number_over-zero a (zs ++ carry ∷ [])) ∙ number_over-push a zs carry 0
    ∙ ap (number_over a zs)
    (last_carry (number_of a (drop i xs)) (number_of a (drop i ys)) (bit_of a carry) (number_of-end a xs i left) (number_of-end a ys i right))
    ∙ before a is

-- what a choice has so far
abbrev pub ChoiceSoFar : Circuit → Lit → List Lit → List Lit → ℕ → List Lit → Type 0
ChoiceSoFar c s xs ys i zs =
    (a : Assignment) → IsTrue (is_valuation c a)
    → number_over a zs (cond (is_true a s) (number_of a (drop i xs)) (number_of a (drop i ys)))
    ≡ cond (is_true a s) (number_of a xs) (number_of a ys)

picked : (s x y b : Bool) (n m n' m' : ℕ) → b ≡ cond s x y → n ≡ cond x 1 0 + 2 * n' → m ≡ cond y 1 0 + 2 * m'
    → cond b 1 0 + 2 * cond s n' m' ≡ cond s n m
picked true x y b n m n' m' is left right = rw is (sym left)
picked false x y b n m n' m' is left right = rw is (sym right)

pub choice_more : (c d : Circuit) (s : Lit) (xs ys zs : List Lit) (i : ℕ) (x y bit : Lit)
    → x ≡ get_or xs i (constant false) → y ≡ get_or ys i (constant false) → ChoiceSoFar c s xs ys i zs → Keeps c d
    → GivesMux d s x y bit → ChoiceSoFar d s xs ys (i + 1) (zs ++ bit ∷ [])
choice_more c d s xs ys zs i x y bit at_x at_y before keeps mux a is =
    let none = zero_false d a is in
    number_over-push a zs bit (cond (is_true a s) (number_of a (drop (i + 1) xs)) (number_of a (drop (i + 1) ys)))
    ∙ ap (number_over a zs)
    (picked (is_true a s) (is_true a x) (is_true a y) (is_true a bit) (number_of a (drop i xs)) (number_of a (drop i ys))
    (number_of a (drop (i + 1) xs)) (number_of a (drop (i + 1) ys)) (mux a is) (number_of-drop a xs i x none at_x)
    (number_of-drop a ys i y none at_y))
    ∙ before a (keeps.extends.valuations a is)

none_left : (s : Bool) (n m : ℕ) → n ≡ 0 → m ≡ 0 → 0 ≡ cond s n m
none_left true n m left right = sym left
none_left false n m left right = sym right

pub choice_all : (c : Circuit) (s : Lit) (xs ys zs : List Lit) (i : ℕ) → ChoiceSoFar c s xs ys i zs
    → length xs ≤ i → length ys ≤ i → GivesChoice c s xs ys zs
choice_all c s xs ys zs i before left right a is =
    sym (number_over-zero a zs)
    ∙ ap (number_over a zs)
    (none_left (is_true a s) (number_of a (drop i xs)) (number_of a (drop i ys)) (number_of-end a xs i left) (number_of-end a ys i right))
    ∙ before a is

-- what a comparison has so far
abbrev pub SameSoFar : Circuit → List Lit → List Lit → ℕ → Lit → Type 0
SameSoFar c xs ys i same =
    (a : Assignment) → IsTrue (is_valuation c a)
    → (is_true a same && (number_of a (drop i xs) == number_of a (drop i ys))) ≡ (number_of a xs == number_of a ys)

halves_same : (x y : Bool) (n m : ℕ) → (cond x 1 0 + 2 * n == cond y 1 0 + 2 * m) ≡ (beq x y && (n == m))
halves_same true true n m =
    both_ways (1 + 2 * n == 1 + 2 * m) (n == m)
    (λ is. let same = eqb-true (1 + 2 * n) (1 + 2 * m) is in eq-eqb n m (omega (arith, same)))
    (λ is. let same = eqb-true n m is in eq-eqb (1 + 2 * n) (1 + 2 * m) (omega (arith, same)))
halves_same false false n m =
    both_ways (0 + 2 * n == 0 + 2 * m) (n == m)
    (λ is. let same = eqb-true (0 + 2 * n) (0 + 2 * m) is in eq-eqb n m (omega (arith, same)))
    (λ is. let same = eqb-true n m is in eq-eqb (0 + 2 * n) (0 + 2 * m) (omega (arith, same)))
halves_same true false n m =
    both_ways (1 + 2 * n == 0 + 2 * m) false
    (λ is. let same = eqb-true (1 + 2 * n) (0 + 2 * m) is in absurd (omega (arith, same))) (λ is. absurd (false≢true is))
halves_same false true n m =
    both_ways (0 + 2 * n == 1 + 2 * m) false
    (λ is. let same = eqb-true (0 + 2 * n) (1 + 2 * m) is in absurd (omega (arith, same))) (λ is. absurd (false≢true is))

both_and : (s b x y : Bool) (n m n' m' : ℕ) (all : Bool) → b ≡ beq x y → n ≡ cond x 1 0 + 2 * n' → m ≡ cond y 1 0 + 2 * m'
    → (s && (n == m)) ≡ all → ((s && b) && (n' == m')) ≡ all
both_and true b x y n m n' m' all is left right before =
    rw is (sym (halves_same x y n' m') ∙ sym (rw (left, right) refl) ∙ before)
both_and false b x y n m n' m' all is left right before = before

pub same_more : (c d e : Circuit) (xs ys : List Lit) (i : ℕ) (x y same bit next : Lit)
    → x ≡ get_or xs i (constant false) → y ≡ get_or ys i (constant false) → SameSoFar c xs ys i same → Keeps c d
    → GivesEqual d x y bit → Keeps d e → GivesAnd e same bit next → SameSoFar e xs ys (i + 1) next
same_more c d e xs ys i x y same bit next at_x at_y before keeps equal more both a is =
    let none = zero_false e a is in
    let in_d = more.extends.valuations a is in
    ap (λ b. b && (number_of a (drop (i + 1) xs) == number_of a (drop (i + 1) ys))) (both a is)
    ∙ both_and (is_true a same) (is_true a bit) (is_true a x) (is_true a y) (number_of a (drop i xs)) (number_of a (drop i ys))
    (number_of a (drop (i + 1) xs)) (number_of a (drop (i + 1) ys)) (number_of a xs == number_of a ys) (equal a in_d)
    (number_of-drop a xs i x none at_x) (number_of-drop a ys i y none at_y)
    (before a (keeps.extends.valuations a in_d))

halved : (n q r : ℕ) → 2 * q + r ≡ n → r < 2 → cond (r == 1) 1 0 + 2 * q ≡ n
halved n q zero split less = omega (arith, split)
halved n q (suc zero) split less = omega (arith, split)
halved n q (suc (suc r)) split less = absurd (omega (arith, less))

-- a number is its last digit and twice its half
half_of : (n : ℕ) → cond (n % 2 == 1) 1 0 + 2 * (n / 2) ≡ n
half_of n = halved n (n / 2) (n % 2) (div-add-mod n 2) (omega arith)

-- what the digits of a number are so far
abbrev pub DigitsSoFar : ℕ → List Lit → ℕ → Type 0
DigitsSoFar n ls rest = (a : Assignment) → a 0 ≡ false → number_over a ls rest ≡ n

pub digits_more : (n : ℕ) (ls : List Lit) (rest : ℕ) → DigitsSoFar n ls rest
    → DigitsSoFar n (ls ++ constant (rest % 2 == 1) ∷ []) (rest / 2)
digits_more n ls rest before a none =
    number_over-push a ls (constant (rest % 2 == 1)) (rest / 2)
    ∙ ap (number_over a ls) (ap (λ b. cond b 1 0 + 2 * (rest / 2)) (is_true-constant a (rest % 2 == 1) none) ∙ half_of rest)
    ∙ before a none

pub digits_all : (n : ℕ) (ls : List Lit) (rest : ℕ) → DigitsSoFar n ls rest → rest ≤ 0 → AreDigits n ls
digits_all n ls rest before ended a none =
    let is : 0 ≡ rest = omega (arith, ended) in
    sym (number_over-zero a ls) ∙ ap (number_over a ls) is ∙ before a none

-- what a register has so far: latches for its first bits
pub record RegisterSoFar (c : Circuit) (bits next : List Lit) (start : ℕ) (i rest : ℕ) : Type 0 where
  pub starts : (a : Assignment) → IsTrue (is_valuation c a) → IsTrue (is_initial c a) → number_over a (take i bits) rest ≡ start
  pub takes : (a b : Assignment) → IsTrue (is_valuation c a) → IsTrue (is_transition c a b)
      → number_over b (take i bits) (number_of a (drop i next)) ≡ number_of a next

pub register_more : (c d : Circuit) (bits next : List Lit) (start i rest : ℕ) (bit l : Lit)
    → RegisterSoFar c bits next start i rest → i < length bits → bit ≡ get_or bits i bit
    → l ≡ get_or next i (constant false) → AddsLatches c d → StartsAs d bit (Some (rest % 2 == 1)) → Becomes d bit l
    → RegisterSoFar d bits next start (i + 1) (rest / 2)
register_more c d bits next start i rest bit l before less at at_l adds starts becomes =
    let taken : take (i + 1) bits ≡ take i bits ++ bit ∷ [] =
    take_more bits i bit less ∙ ap (λ m. take i bits ++ m ∷ []) (sym at) in
    record {
      starts = λ a is first.
          ap (λ ls. number_over a ls (rest / 2)) taken
          ∙ number_over-push a (take i bits) bit (rest / 2)
          ∙ ap (number_over a (take i bits))
          (ap (λ b. cond b 1 0 + 2 * (rest / 2)) ((booleans_Decides (is_true a bit) (rest % 2 == 1)).0 (starts a first)) ∙ half_of rest)
          ∙ before.starts a (adds.extends.valuations a is) (adds.extends.initials a first);
      takes = λ a b is goes.
          ap (λ ls. number_over b ls (number_of a (drop (i + 1) next))) taken
          ∙ number_over-push b (take i bits) bit (number_of a (drop (i + 1) next))
          ∙ ap (number_over b (take i bits))
          (ap (λ v. cond v 1 0 + 2 * number_of a (drop (i + 1) next)) (becomes a b goes)
          ∙ sym (number_of-drop a next i l (zero_false d a is) at_l))
          ∙ before.takes a b (adds.extends.valuations a is) (adds.extends.transitions a b goes);
    }

pub starts_at : (c : Circuit) (bits next : List Lit) (start i rest : ℕ)
    → RegisterSoFar c bits next start i rest → length bits ≤ i → StartsAt c bits start
starts_at c bits next start i rest all past a is first =
    number_over-mod a bits rest start
    (ap (λ ls. number_over a ls rest) (sym (take_all i bits past)) ∙ all.starts a is first)

pub takes_next : (c : Circuit) (bits next : List Lit) (start i rest : ℕ)
    → RegisterSoFar c bits next start i rest → length bits ≤ i → Takes c bits next
takes_next c bits next start i rest all past a b is goes =
    number_over-mod b bits (number_of a (drop i next)) (number_of a next)
    (ap (λ ls. number_over b ls (number_of a (drop i next))) (sym (take_all i bits past)) ∙ all.takes a b is goes)
