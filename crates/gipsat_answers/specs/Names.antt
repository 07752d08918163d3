-- Variables under other names.
use Rattle.std.specs.Prelude.{◌≡◌, ℕ, zero, suc, ◌+◌, ◌<◌, Bool, List, [], ◌∷◌, map, length, slice_get, slice_index_or, Some, ◌⊎◌}
use Rattle.gipsat_cnf.specs.Prelude.{AreAllBelow, Assignment, Clause, Formula, Lit, assignment_in}
use Rattle.gipsat_answers.specs.declared.answers.Solved.{Solved}

-- the name of a variable by a list of names; a variable past its end keeps its number
abbrev pub name_in : List ℕ → ℕ → ℕ
name_in names variable = slice_index_or names variable variable

-- the names of n variables from number k on
abbrev pub names_from : List ℕ → ℕ → ℕ → List ℕ
names_from names k zero = []
names_from names k (suc n) = name_in names k ∷ names_from names (k + 1) n

-- the names of the first n variables
abbrev pub first_names : List ℕ → ℕ → List ℕ
first_names names n = names_from names 0 n

-- the first n variables, under their own numbers
abbrev pub numbers_below : ℕ → List ℕ
numbers_below n = first_names [] n

-- the first n variables have these values under their names
abbrev pub AreNamedValues : List ℕ → ℕ → List Bool → Assignment → Type 0
AreNamedValues names n model a = (v : ℕ) → v < n → a (name_in names v) ≡ assignment_in model v

-- the literal of the same sign under its variable's name
abbrev pub named_literal : List ℕ → Lit → Lit
named_literal names l = record { variable = name_in names l.variable; positive = l.positive }

-- the clause under the names of its variables
abbrev pub named_clause : List ℕ → Clause → Clause
named_clause names clause = map (named_literal names) clause

-- the formula under the names of its variables
abbrev pub named : List ℕ → Formula → Formula
named names formula = map (named_clause names) formula

-- the formula of a solver, under the names that its variables have in the text
abbrev pub formula_of : Solved → Formula
formula_of solved = named solved.names.items solved.solver.formula

-- each name is greater than those before it
abbrev pub IsRising : List ℕ → Type 0
IsRising names = (i j m n : ℕ) → i < j → slice_get names i ≡ Some m → slice_get names j ≡ Some n → m < n

-- no two names are the same, and each variable of the formula has one; or there are none
pub record AreNamesOf (formula : Formula) (names : List ℕ) : Type 0 where
  pub rising : IsRising names
  pub each : (names ≡ []) ⊎ AreAllBelow (length names) formula
