-- Counting through all lists of truth values of one length.
use Rattle.std.proofs.Common.{◌≡◌, ℕ, ◌+◌, ◌-◌, ◌*◌, ◌^◌, ◌<◌, ◌≤◌, ⊎_elim, List, [], ◌∷◌, length, get_or, set, Bool, true, false, IsTrue, suc, zero, refl, sym, ap, subst, ◌∙◌, arith}
use Rattle.std.specs.Prelude.{replicate}
use Rattle.std.specs.Bool.{beq}
use Rattle.std.proofs.Math.Nat.{two-pow-succ}
use Rattle.std.proofs.Math.Numerals.{add-one}
use Rattle.std.proofs.lemmas.Bool.{false≢true, cases_lt}
use Rattle.gipsat_cnf.specs.Prelude.{AreAllBelow, AreBelow, Assignment, Formula, IsModelUnder, IsSatisfiableUnder, Lit, NoneBelow, assignment_in, is_true, makes_true, number, satisfies}
use Rattle.gipsat_cnf.proofs.Formulas.{satisfies-at, satisfies-each}
use Rattle.gipsat_cnf.proofs.LiteralLemmas.{satisfied_by, true_literal}
use Rattle.gipsat_cnf.proofs.MakesTrue.{makes_true-at, makes_true-each}

-- a digit is set
pub number-set_true : (bits : List Bool) (i : ℕ) → i < length bits → get_or bits i false ≡ false
    → number (set bits i true) ≡ number bits + 2 ^ i
number-set_true [] i within off = absurd (omega (arith, within))
number-set_true (true ∷ bits) zero within off = absurd (false≢true (sym off))
number-set_true (false ∷ bits) zero within off = omega arith
number-set_true (b ∷ bits) (suc i) within off =
    let rest = number-set_true bits i (omega (arith, within)) off in
    omega (arith, rest)

-- a digit is taken away
pub number-set_false : (bits : List Bool) (i : ℕ) → get_or bits i false ≡ true → number (set bits i false) + 2 ^ i ≡ number bits
number-set_false [] i on = absurd (false≢true on)
number-set_false (true ∷ bits) zero on = omega arith
number-set_false (false ∷ bits) zero on = absurd (false≢true on)
number-set_false (b ∷ bits) (suc i) on = let rest = number-set_false bits i on in omega (arith, rest)

below_twice : (digit n m p : ℕ) → digit < 2 → p ≡ m + m → n < m → digit + 2 * n < p
below_twice digit n m p small twice less = omega (arith, small, twice, less)

-- the power of the next place
pub twice_power : (i : ℕ) → 2 ^ (i + 1) ≡ 2 ^ i + 2 ^ i
twice_power i = ap (λ n. 2 ^ n) (add-one i) ∙ two-pow-succ i

pub number-less : (bits : List Bool) → number bits < 2 ^ length bits
number-less [] = omega arith
number-less (true ∷ bits) = below_twice 1 (number bits) (2 ^ length bits) (2 ^ suc (length bits)) (omega arith) (two-pow-succ (length bits)) (number-less bits)
number-less (false ∷ bits) = below_twice 0 (number bits) (2 ^ length bits) (2 ^ suc (length bits)) (omega arith) (two-pow-succ (length bits)) (number-less bits)

-- one list less is left
pub distance-less : (old new : List Bool) → length new ≡ length old → number new ≡ number old + 1
    → 2 ^ length new - number new < 2 ^ length old - number old
distance-less old new len next =
    let same : 2 ^ length new ≡ 2 ^ length old = ap (λ n. 2 ^ n) len in
    omega (arith, same, next, number-less new)

pub number-replicate : (n : ℕ) → number (replicate n false) ≡ 0
number-replicate zero = refl
number-replicate (suc n) = omega (arith, number-replicate n)

-- lists of one length have different numbers
number-injective : (xs ys : List Bool) → length xs ≡ length ys → number xs ≡ number ys → xs ≡ ys
number-injective [] [] len same = refl
number-injective [] (c ∷ ys) len same = absurd (omega (arith, len))
number-injective (b ∷ xs) [] len same = absurd (omega (arith, len))
number-injective (true ∷ xs) (true ∷ ys) len same = ap (λ zs. true ∷ zs) (number-injective xs ys (omega (arith, len)) (omega (arith, same)))
number-injective (false ∷ xs) (false ∷ ys) len same = ap (λ zs. false ∷ zs) (number-injective xs ys (omega (arith, len)) (omega (arith, same)))
number-injective (true ∷ xs) (false ∷ ys) len same = absurd (omega (arith, same))
number-injective (false ∷ xs) (true ∷ ys) len same = absurd (omega (arith, same))

-- the values of the first variables
abbrev first_values : Assignment → ℕ → List Bool
first_values a zero = []
first_values a (suc n) = a 0 ∷ first_values (λ v. a (suc v)) n

length-first_values : (a : Assignment) (n : ℕ) → length (first_values a n) ≡ n
length-first_values a zero = refl
length-first_values a (suc n) = ap suc (length-first_values (λ v. a (suc v)) n)

first_values-at : (a : Assignment) (n v : ℕ) → v < n → assignment_in (first_values a n) v ≡ a v
first_values-at a zero v less = absurd (omega (arith, less))
first_values-at a (suc n) zero less = refl
first_values-at a (suc n) (suc v) less = first_values-at (λ v. a (suc v)) n v (omega (arith, less))

true_alike : (a b : Assignment) (n : ℕ) (l : Lit) → l.variable < n → ((v : ℕ) → v < n → b v ≡ a v) → is_true a l ≡ true → is_true b l ≡ true
true_alike a b n l below agree is = ap (λ v. beq v l.positive) (agree l.variable below) ∙ is

-- what agrees with a model on the formula's variables is a model
satisfies-agreeing : (a b : Assignment) (n : ℕ) (f : Formula) → AreAllBelow n f → ((v : ℕ) → v < n → b v ≡ a v)
    → IsTrue (satisfies a f) → IsTrue (satisfies b f)
satisfies-agreeing a b n f below agree sat =
    satisfies-each b f (λ k c at.
    let found = true_literal a c (satisfies-at a f k c sat at) in
    let l : Lit = found.0 in
    satisfied_by b c found.1.0 found.0 found.1.1 (true_alike a b n l (below k c at found.1.0 found.0 found.1.1) agree found.2))

makes_true-agreeing : (a b : Assignment) (n : ℕ) (literals : List Lit) → AreBelow n literals → ((v : ℕ) → v < n → b v ≡ a v)
    → makes_true a literals ≡ true → makes_true b literals ≡ true
makes_true-agreeing a b n literals below agree all =
    makes_true-each b literals
    (λ l has. true_alike a b n l (below has.0 l has.1) agree (makes_true-at a literals has.0 l all has.1))

pub NoneBelow-zero : (f : Formula) (assumed : List Lit) (len n : ℕ) → n ≡ 0 → NoneBelow f assumed len n
NoneBelow-zero f assumed len n none values as_long less = absurd (omega (arith, less, none))

-- values that are no model
pub NoneBelow-next : (f : Formula) (assumed : List Lit) (len : ℕ) (values : List Bool) (n : ℕ) → length values ≡ len
    → n ≡ number values + 1 → ¬ (IsModelUnder f assumed values) → NoneBelow f assumed len (number values) → NoneBelow f assumed len n
NoneBelow-next f assumed len values n as_long next not_it none others others_long less model =
    ⊎_elim
    (λ earlier. none others others_long earlier model)
    (λ at_least.
    let same : values ≡ others = number-injective values others (omega (arith, as_long, others_long)) (omega (arith, less, next, at_least)) in
    not_it (subst (IsModelUnder f assumed) (sym same) model))
    (cases_lt (number others) (number values))

-- no values are left
pub NoneBelow-all : (f : Formula) (assumed : List Lit) (len n : ℕ) → AreAllBelow len f → AreBelow len assumed → 2 ^ len ≤ n
    → NoneBelow f assumed len n → ¬ (IsSatisfiableUnder f assumed)
NoneBelow-all f assumed len n below assumed_below all none (a, sat, is) =
    let values = first_values a len in
    let as_long = length-first_values a len in
    let less : number (first_values a len) < n =
    omega (arith, all, subst (λ m. number (first_values a len) < 2 ^ m) as_long (number-less (first_values a len)))
    in
    none (first_values a len) as_long less (
      satisfies-agreeing a (assignment_in (first_values a len)) len f below (λ v below_v. first_values-at a len v below_v) sat,
      makes_true-agreeing a (assignment_in (first_values a len)) len assumed assumed_below (λ v below_v. first_values-at a len v below_v) is,
    )
