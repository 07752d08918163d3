-- How clauses lie in one list of literals.
use Rattle.std.specs.Prelude.{◌≡◌, ℕ, ◌^◌, ◌<◌, ◌≤◌, List, length, map, slice_range, slice_get, Some}
use Rattle.gipsat_cnf.specs.declared.cnf.Span.{Span}
use Rattle.gipsat_cnf.specs.Formulas.{AreBelow, Clause}
use Rattle.gipsat_cnf.specs.Literals.{Lit}

-- the clauses that lie in these spans
abbrev pub clauses_of : List Lit → List Span → List Clause
clauses_of literals spans = map (λ s. slice_range literals s.start s.end) spans

-- each span lies within so many literals
abbrev pub AreSpans : ℕ → List Span → Type 0
AreSpans n spans = (k : ℕ) (s : Span) → slice_get spans k ≡ Some s → (s.start ≤ s.end) × (s.end ≤ n)

-- each span ends before a later one starts
abbrev pub AreApart : List Span → Type 0
AreApart spans = (j k : ℕ) (s t : Span) → j < k → slice_get spans j ≡ Some s → slice_get spans k ≡ Some t → s.end ≤ t.start

-- the spans lie within the literals, one behind another, and the variables are below a number
pub record IsLaidOut (variables : ℕ) (literals : List Lit) (spans : List Span) : Type 0 where
  pub small : variables ≤ 2 ^ 31
  pub below : AreBelow variables literals
  pub within : AreSpans (length literals) spans
  pub apart : AreApart spans
