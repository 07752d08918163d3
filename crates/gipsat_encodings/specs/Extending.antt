-- What a formula that grows says more than before, where the clauses that are added have variables of their own.
use Rattle.std.specs.Prelude.{◌≡◌, ℕ, ◌<◌, ◌≤◌, List, IsTrue, ⊤}
use Rattle.gipsat_cnf.specs.Prelude.{AddsPart, AreBelow, Assignment, Formula, Lit, satisfies}

-- both give each variable below n the same value
abbrev pub AgreeBelow : ℕ → Assignment → Assignment → Type 0
AgreeBelow n a b = (v : ℕ) → v < n → a v ≡ b v

-- whether an assignment has the property rests on the variables below n alone
abbrev pub RestsBelow : ℕ → (Assignment → Type 0) → Type 0
RestsBelow n Means = (a b : Assignment) → AgreeBelow n a b → Means a → Means b

-- whether an assignment satisfies the formula rests on the variables below n alone
abbrev pub SpeaksBelow : ℕ → Formula → Type 0
SpeaksBelow n formula = RestsBelow n (λ a. IsTrue (satisfies a formula))

-- every assignment has it
abbrev pub Anything : Assignment → Type 0
Anything a = ⊤

-- A formula grows by clauses on variables of its own, those from n on, below m: each model of the new formula is one of
-- the old and has the property Means, and each model of the old that has the property Asks is one of the new, once the
-- variables from n on have other values.
pub record Extends (n m : ℕ) (Asks Means : Assignment → Type 0) (old new : Formula) : Type 0 where
  pub up : n ≤ m
  pub sound : (a : Assignment) → IsTrue (satisfies a new) → IsTrue (satisfies a old) × Means a
  pub complete : SpeaksBelow n old → (a : Assignment) → IsTrue (satisfies a old) → Asks a
      → (b : Assignment) × AgreeBelow n a b × IsTrue (satisfies b new)
  pub speaks : SpeaksBelow n old → SpeaksBelow m new

-- the models of the new formula are those of the old that have the property, but for the variables from n on
abbrev pub Constrains : ℕ → ℕ → (Assignment → Type 0) → Formula → Formula → Type 0
Constrains n m Means = Extends n m Means Means

-- the models of the new formula are those of the old, but for the variables from n on, which have the property
abbrev pub Defines : ℕ → ℕ → (Assignment → Type 0) → Formula → Formula → Type 0
Defines n m Means = Extends n m Anything Means

-- Of the clauses of a constraint, a part is added, or none: each model of the new formula is one of the old, and each
-- model of the old that has the property is one of the new, once the variables from n on have other values.
abbrev pub ConstrainsPart : ℕ → ℕ → (Assignment → Type 0) → Formula → Formula → Type 0
ConstrainsPart n m Means = Extends n m Means Anything

-- of the clauses of a definition, a part is added, or none: the models stay, but for the variables from n on
abbrev pub DefinesPart : ℕ → ℕ → Formula → Formula → Type 0
DefinesPart n m = Extends n m Anything Anything

-- what is added speaks of the variables of the literals alone
abbrev pub SpeaksOf : List Lit → Formula → Formula → Type 0
SpeaksOf literals old new = (n : ℕ) → AreBelow n literals → SpeaksBelow n old → SpeaksBelow n new

-- a part of what the property says is added, or nothing, by clauses of the variables of the literals alone
pub record AddsSome (literals : List Lit) (Means : Assignment → Type 0) (old new : Formula) : Type 0 where
  pub part : AddsPart Means old new
  pub speaks : SpeaksOf literals old new
