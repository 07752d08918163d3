-- What a refused call leaves: a part of what is to be added, in clauses of the variables of its literals.
use Rattle.std.proofs.Common.{◌≡◌, ℕ, zero, suc, ◌<◌, ◌≤◌, List, [], ◌∷◌, ◌++◌, IsTrue, refl, sym, subst, ◌∙◌, arith}
use Rattle.gipsat_cnf.specs.Prelude.{Adds, AreBelow, Assignment, Clause, Formula, Lit, is_true, negated, satisfies, satisfies_clause}
use Rattle.gipsat_cnf.proofs.Encodings.{Adds-clause, AddsPart-none, AddsPart-of, AddsPart-then, AddsPart-whole}
use Rattle.gipsat_cnf.proofs.Places.{none_some, same_some}
use Rattle.gipsat_encodings.specs.Extending.{AddsSome, Anything, ConstrainsPart, DefinesPart, Extends, RestsBelow, SpeaksOf}
use Rattle.gipsat_encodings.proofs.Agreeing.{AgreeBelow-refl, AreBelow-first, AreBelow-rest, RestsBelow-more, SpeaksBelow-adds, is_true-agreeing}
use Rattle.gipsat_encodings.proofs.Extending.{Extends-both, Extends-from, Extends-weaker}

-- literals of two lists
pub AreBelow-left : (n : ℕ) (xs ys : List Lit) → AreBelow n (xs ++ ys) → AreBelow n xs
AreBelow-left n [] ys below k l at = none_some l at
AreBelow-left n (x ∷ xs) ys below zero l at = below zero l at
AreBelow-left n (x ∷ xs) ys below (suc k) l at = AreBelow-left n xs ys (AreBelow-rest n x (xs ++ ys) below) k l at

pub AreBelow-right : (n : ℕ) (xs ys : List Lit) → AreBelow n (xs ++ ys) → AreBelow n ys
AreBelow-right n [] ys below = below
AreBelow-right n (x ∷ xs) ys below = AreBelow-right n xs ys (AreBelow-rest n x (xs ++ ys) below)

pub AreBelow-joined : (n : ℕ) (xs ys : List Lit) → AreBelow n xs → AreBelow n ys → AreBelow n (xs ++ ys)
AreBelow-joined n [] ys xs_below ys_below k l at = ys_below k l at
AreBelow-joined n (x ∷ xs) ys xs_below ys_below zero l at = xs_below zero l at
AreBelow-joined n (x ∷ xs) ys xs_below ys_below (suc k) l at = AreBelow-joined n xs ys (AreBelow-rest n x xs xs_below) ys_below k l at

pub AreBelow-more-first : (n : ℕ) (l : Lit) (literals : List Lit) → l.variable < n → AreBelow n literals → AreBelow n (l ∷ literals)
AreBelow-more-first n l literals first below = AreBelow-joined n (l ∷ []) literals one below
  where
    one : AreBelow n (l ∷ [])
    one zero m at = subst (λ x. x.variable < n) (same_some l m at) first
    one (suc k) m at = none_some m at

-- what satisfies a clause rests on its variables
RestsBelow-clause : (n : ℕ) (clause : Clause) → AreBelow n clause → RestsBelow n (λ a. IsTrue (satisfies_clause a clause))
RestsBelow-clause n clause below a b same sat = subst IsTrue (values clause below) sat
  where
    values : (ls : List Lit) → AreBelow n ls → satisfies_clause a ls ≡ satisfies_clause b ls
    values [] below = refl
    values (l ∷ ls) below = rw (is_true-agreeing n a b l same (AreBelow-first n l ls below), values ls (AreBelow-rest n l ls below)) refl

-- a clause is added
SpeaksOf-clause : (literals : List Lit) (clause : Clause) (f g : Formula) → ((n : ℕ) → AreBelow n literals → AreBelow n clause)
    → g ≡ f ++ clause ∷ [] → SpeaksOf literals f g
SpeaksOf-clause literals clause f g within same n below =
    SpeaksBelow-adds n n (λ a. IsTrue (satisfies_clause a clause)) f g (omega arith) (Adds-clause clause f g same) (RestsBelow-clause n clause (within n below))

-- the first clause of what is chosen
pub SpeaksOf-chosen : (output condition chosen : Lit) (f g : Formula) → g ≡ f ++ (negated condition ∷ negated chosen ∷ output ∷ []) ∷ []
    → SpeaksOf (output ∷ condition ∷ chosen ∷ []) f g
SpeaksOf-chosen output condition chosen f g same =
    SpeaksOf-clause (output ∷ condition ∷ chosen ∷ []) (negated condition ∷ negated chosen ∷ output ∷ []) f g within same
  where
    within : (n : ℕ) → AreBelow n (output ∷ condition ∷ chosen ∷ []) → AreBelow n (negated condition ∷ negated chosen ∷ output ∷ [])
    within n below =
        AreBelow-more-first n (negated condition) (negated chosen ∷ output ∷ []) (below 1 condition refl)
        (AreBelow-more-first n (negated chosen) (output ∷ []) (below 2 chosen refl)
        (AreBelow-more-first n output [] (below 0 output refl) (λ k l at. none_some l at)))

-- what is chosen where the condition is true speaks of no more than a choice
pub SpeaksOf-yes : (output condition x y : Lit) (f g : Formula) → SpeaksOf (output ∷ condition ∷ x ∷ []) f g
    → SpeaksOf (output ∷ condition ∷ x ∷ y ∷ []) f g
SpeaksOf-yes output condition x y f g speaks n below =
    speaks n
    (AreBelow-more-first n output (condition ∷ x ∷ []) (below 0 output refl)
    (AreBelow-more-first n condition (x ∷ []) (below 1 condition refl)
    (AreBelow-more-first n x [] (below 2 x refl) (λ k l at. none_some l at))))

-- so does what is chosen where it is not, once the other is added
pub SpeaksOf-no : (output condition x y : Lit) (f g h : Formula)
    → Adds (λ a. IsTrue (is_true a condition) → is_true a output ≡ is_true a x) f g → SpeaksOf (output ∷ negated condition ∷ y ∷ []) g h
    → SpeaksOf (output ∷ condition ∷ x ∷ y ∷ []) f h
SpeaksOf-no output condition x y f g h adds speaks n below still =
    speaks n
    (AreBelow-more-first n output (negated condition ∷ y ∷ []) (below 0 output refl)
    (AreBelow-more-first n (negated condition) (y ∷ []) (below 1 condition refl)
    (AreBelow-more-first n y [] (below 3 y refl) (λ k l at. none_some l at))))
    (SpeaksBelow-adds n n (λ a. IsTrue (is_true a condition) → is_true a output ≡ is_true a x) f g (omega arith) adds
    (λ a b same is is_b.
    sym (is_true-agreeing n a b output same (below 0 output refl))
    ∙ is (is_true-agreeing n a b condition same (below 1 condition refl) ∙ is_b)
    ∙ is_true-agreeing n a b x same (below 2 x refl)) still)

-- a choice of a literal and its negation speaks of the same
pub SpeaksOf-xor : (output l m : Lit) (f g : Formula) → SpeaksOf (output ∷ l ∷ negated m ∷ m ∷ []) f g → SpeaksOf (output ∷ l ∷ m ∷ []) f g
SpeaksOf-xor output l m f g speaks n below =
    speaks n
    (AreBelow-more-first n output (l ∷ negated m ∷ m ∷ []) (below 0 output refl)
    (AreBelow-more-first n l (negated m ∷ m ∷ []) (below 1 l refl)
    (AreBelow-more-first n (negated m) (m ∷ []) (below 2 m refl)
    (AreBelow-more-first n m [] (below 2 m refl) (λ k x at. none_some x at)))))

-- nothing is added
pub AddsSome-none : (literals : List Lit) (M : Assignment → Type 0) (f g : Formula) → g ≡ f → AddsSome literals M f g
AddsSome-none literals M f g same =
    subst (λ x. AddsSome literals M f x) (sym same) (record { part = AddsPart-none M f; speaks = λ n below speaks. speaks })

-- a part is added, which rests on the variables of the literals
pub AddsSome-adds : (literals : List Lit) (M N : Assignment → Type 0) (f g : Formula) → ((a : Assignment) → N a → M a)
    → ((n : ℕ) → AreBelow n literals → RestsBelow n M) → Adds M f g → AddsSome literals N f g
AddsSome-adds literals M N f g implies rests adds = record {
  part = AddsPart-of M N f g implies (AddsPart-whole M f g adds);
  speaks = λ n below. SpeaksBelow-adds n n M f g (omega arith) adds (rests n below);
}

-- a part of what is implied is a part
pub AddsSome-of : (literals : List Lit) (M N : Assignment → Type 0) (f g : Formula) → ((a : Assignment) → N a → M a) → AddsSome literals M f g
    → AddsSome literals N f g
AddsSome-of literals M N f g implies some = record { part = AddsPart-of M N f g implies some.part; speaks = some.speaks }

-- first a part is added, then another one
pub AddsSome-then : (literals : List Lit) (M : Assignment → Type 0) (f g h : Formula) → AddsSome literals M f g → AddsSome literals M g h
    → AddsSome literals M f h
AddsSome-then literals M f g h first then = record {
  part = AddsPart-then M f g h first.part then.part;
  speaks = λ n below speaks. then.speaks n below (first.speaks n below speaks);
}

-- the formula stays, and variables are taken
pub Extends-stays : (n m : ℕ) (A : Assignment → Type 0) (f : Formula) → n ≤ m → Extends n m A Anything f f
Extends-stays n m A f up = record {
  up = up;
  sound = λ a sat. (sat, tt);
  complete = λ speaks a sat asked. (a, AgreeBelow-refl n a, sat);
  speaks = λ speaks. RestsBelow-more n m (λ a. IsTrue (satisfies a f)) up speaks;
}

-- a formula that may be left where nothing is asked may be left where something is, and above fewer variables
pub ConstrainsPart-from : (v n m : ℕ) (M : Assignment → Type 0) (f g : Formula) → v ≤ n → Extends n m Anything Anything f g
    → ConstrainsPart v m M f g
ConstrainsPart-from v n m M f g up extends =
    Extends-weaker v m Anything M Anything Anything f g (λ a asked. tt) (λ a means. means) (Extends-from v n m Anything Anything f g up extends)

-- first the one is left, then the other
pub DefinesPart-both : (n k m : ℕ) (f g h : Formula) → DefinesPart n k f g → DefinesPart k m g h → DefinesPart n m f h
DefinesPart-both n k m f g h first then =
    Extends-weaker n m Anything Anything (λ a. Anything a × Anything a) Anything f h (λ a asked. tt) (λ a means. tt)
    (Extends-both n k m Anything Anything Anything Anything Anything f g h first then (λ a asked. tt) (λ a b same asked means. tt))
