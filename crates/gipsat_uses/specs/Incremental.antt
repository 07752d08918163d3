-- Pairs of literals, and facts that are added to a formula.
use Rattle.std.specs.Prelude.{◌≡◌, ℕ, ◌<◌, ◌≤◌, ◌⊎◌, List, [], ◌∷◌, ◌++◌, length, map, take, slice_get, Some, IsTrue}
use Rattle.gipsat_cnf.specs.Prelude.{Assignment, Clause, Formula, IsSatisfiable, Lit, is_true}

-- the clause that one of the pair is true
abbrev pub either : Lit × Lit → Clause
either pair = pair.0 ∷ pair.1 ∷ []

-- of each pair one is true
abbrev pub Covers : List (Lit × Lit) → Assignment → Type 0
Covers pairs a =
    (k : ℕ) (pair : Lit × Lit) → slice_get pairs k ≡ Some pair → IsTrue (is_true a pair.0) ⊎ IsTrue (is_true a pair.1)

-- the clause that a fact is true, for each of the facts
abbrev pub units : List Lit → Formula
units facts = map (λ l. l ∷ []) facts

-- the formula with the clauses of the first n facts
abbrev pub with_first : Formula → List Lit → ℕ → Formula
with_first formula facts n = formula ++ units (take n facts)

-- the first n facts can be true together with the formula, and no more of them
pub record IsLongestStart (formula : Formula) (facts : List Lit) (n : ℕ) : Type 0 where
  pub within : n ≤ length facts
  pub can : IsSatisfiable (with_first formula facts n)
  pub longest : (k : ℕ) → n < k → k ≤ length facts → ¬ (IsSatisfiable (with_first formula facts k))
