-- Formulas in conjunctive form, and what satisfies them.
use Rattle.std.specs.Prelude.{◌≡◌, ◌≢◌, ℕ, ◌<◌, Bool, List, slice_get, Some, IsTrue}
use Rattle.std.specs.Bool.{beq}
use Rattle.std.specs.List.{list_any, list_all}
use Rattle.gipsat_cnf.specs.Literals.{Lit}

-- one of its literals has to be true
abbrev pub Clause : Type 0
Clause = List Lit

-- each of its clauses has to be satisfied
abbrev pub Formula : Type 0
Formula = List Clause

-- a truth value for each variable
abbrev pub Assignment : Type 0
Assignment = ℕ → Bool

-- the literal's variable has the value that its sign asks for
abbrev pub is_true : Assignment → Lit → Bool
is_true a l = beq (a l.variable) l.positive

-- one of the clause's literals is true
abbrev pub satisfies_clause : Assignment → Clause → Bool
satisfies_clause a clause = list_any (is_true a) clause

-- each of the formula's clauses is satisfied
abbrev pub satisfies : Assignment → Formula → Bool
satisfies a formula = list_all (satisfies_clause a) formula

-- an assignment satisfies the formula
abbrev pub IsSatisfiable : Formula → Type 0
IsSatisfiable formula = (a : Assignment) × IsTrue (satisfies a formula)

-- what satisfies the formula satisfies the clause
pub record Implies (formula : Formula) (clause : Clause) : Type 0 where
  pub follows : (a : Assignment) → IsTrue (satisfies a formula) → IsTrue (satisfies_clause a clause)

-- the literal is one of the clause's
abbrev pub Has : Clause → Lit → Type 0
Has clause l = (k : ℕ) × (slice_get clause k ≡ Some l)

-- the literal is one of the clause's, and not a certain one
abbrev pub HasBut : Lit → Clause → Lit → Type 0
HasBut but clause l = Has clause l × (l ≢ but)

-- each of the clause's variables is below the count
abbrev pub AreBelow : ℕ → Clause → Type 0
AreBelow variables clause = (k : ℕ) (l : Lit) → slice_get clause k ≡ Some l → l.variable < variables
