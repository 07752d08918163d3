-- Assignments that agree on the variables below a number, and what rests on these alone.
use Rattle.std.proofs.Common.{◌≡◌, ℕ, ◌<◌, ◌≤◌, List, [], ◌∷◌, suc, zero, refl, sym, ap, ◌∙◌, arith}
use Rattle.std.specs.Bool.{beq}
use Rattle.gipsat_cnf.specs.Prelude.{Adds, AreAllBelow, AreBelow, Assignment, Formula, Lit, is_true}
use Rattle.gipsat_cnf.proofs.Formulas.{satisfies-at, satisfies-each}
use Rattle.gipsat_cnf.proofs.LiteralLemmas.{satisfied_by, true_literal}
use Rattle.gipsat_encodings.specs.Counts.{count_true}
use Rattle.gipsat_encodings.specs.Extending.{AgreeBelow, RestsBelow, SpeaksBelow}
use Rattle.gipsat_encodings.specs.Gates.{parity}

-- each agrees with itself
pub AgreeBelow-refl : (n : ℕ) (a : Assignment) → AgreeBelow n a a
AgreeBelow-refl n a v less = refl

-- agreement up to more variables comes second
pub AgreeBelow-both : (n m : ℕ) (a b c : Assignment) → n ≤ m → AgreeBelow n a b → AgreeBelow m b c → AgreeBelow n a c
AgreeBelow-both n m a b c up first then v less = first v less ∙ then v (omega (arith, up, less))

pub AgreeBelow-less : (n m : ℕ) (a b : Assignment) → n ≤ m → AgreeBelow m a b → AgreeBelow n a b
AgreeBelow-less n m a b up same v less = same v (omega (arith, up, less))

-- a literal has one value by both
pub is_true-agreeing : (n : ℕ) (a b : Assignment) (l : Lit) → AgreeBelow n a b → l.variable < n → is_true a l ≡ is_true b l
is_true-agreeing n a b l same below = ap (λ x. beq x l.positive) (same l.variable below)

-- what rests on some variables rests on these and more
pub RestsBelow-more : (n m : ℕ) (P : Assignment → Type 0) → n ≤ m → RestsBelow n P → RestsBelow m P
RestsBelow-more n m P up rests a b same = rests a b (AgreeBelow-less n m a b up same)

pub AreBelow-more : (n m : ℕ) (literals : List Lit) → n ≤ m → AreBelow n literals → AreBelow m literals
AreBelow-more n m literals up below k l at = let less = below k l at in omega (arith, less, up)

pub AreBelow-first : (n : ℕ) (l : Lit) (literals : List Lit) → AreBelow n (l ∷ literals) → l.variable < n
AreBelow-first n l literals below = below zero l refl

pub AreBelow-rest : (n : ℕ) (l : Lit) (literals : List Lit) → AreBelow n (l ∷ literals) → AreBelow n literals
AreBelow-rest n l literals below k m at = below (suc k) m at

-- as many literals are true by both
pub count-agreeing : (n : ℕ) (a b : Assignment) (literals : List Lit) → AgreeBelow n a b → AreBelow n literals
    → count_true a literals ≡ count_true b literals
count-agreeing n a b [] same below = refl
count-agreeing n a b (l ∷ literals) same below =
    rw (is_true-agreeing n a b l same (AreBelow-first n l literals below), count-agreeing n a b literals same (AreBelow-rest n l literals below)) refl

pub parity-agreeing : (n : ℕ) (a b : Assignment) (literals : List Lit) → AgreeBelow n a b → AreBelow n literals → parity a literals ≡ parity b literals
parity-agreeing n a b [] same below = refl
parity-agreeing n a b (l ∷ literals) same below =
    rw (is_true-agreeing n a b l same (AreBelow-first n l literals below), parity-agreeing n a b literals same (AreBelow-rest n l literals below)) refl

-- a formula of variables below a number speaks of these alone
pub SpeaksBelow-all : (n : ℕ) (f : Formula) → AreAllBelow n f → SpeaksBelow n f
SpeaksBelow-all n f below a b same sat =
    satisfies-each b f (λ k clause at.
    let (l, has, is) = true_literal a clause (satisfies-at a f k clause sat at) in
    satisfied_by b clause has.0 l has.1 (sym (is_true-agreeing n a b l same (below k clause at has.0 l has.1)) ∙ is))

-- a formula to which a property of such variables was added speaks of these alone
pub SpeaksBelow-adds : (n m : ℕ) (M : Assignment → Type 0) (f g : Formula) → n ≤ m → Adds M f g → RestsBelow m M → SpeaksBelow n f → SpeaksBelow m g
SpeaksBelow-adds n m M f g up adds rests speaks a b same sat =
    let (was, means) = (adds a).0 sat in (adds b).1 (speaks a b (AgreeBelow-less n m a b up same) was, rests a b same means)
