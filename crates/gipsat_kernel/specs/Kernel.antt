-- Working clauses: those of a formula, and others that follow from it.
use Rattle.std.specs.Prelude.{◌≡◌, ℕ, Bool, true, false, List, [], ◌∷◌, length, slice_get, slice_index_or, Some, IsTrue}
use Rattle.gipsat_cnf.specs.Formulas.{Clause, Formula, Implies}
use Rattle.gipsat_kernel.specs.Marks.{ImpliesMarked}

-- the clauses whose flag says that they are original, in order
abbrev pub original_among : List Bool → List Clause → Formula
original_among [] clauses = []
original_among (flag ∷ flags) [] = []
original_among (true ∷ flags) (c ∷ clauses) = c ∷ original_among flags clauses
original_among (false ∷ flags) (c ∷ clauses) = original_among flags clauses

-- each clause has a flag and follows from the original ones; while a derivation is open, so do the marked literals
pub record IsKernel (flags : List Bool) (clauses : List Clause) (marks : List Bool) (is_open : Bool) : Type 0 where
  pub as_many : length flags ≡ length clauses
  pub implied : (k : ℕ) (c : Clause) → slice_get clauses k ≡ Some c → Implies (original_among flags clauses) c
  pub follows : IsTrue is_open → ImpliesMarked (original_among flags clauses) marks

-- each original clause stays; those past the flags stay
abbrev pub OriginalStay : List Bool → List Bool → Type 0
OriginalStay flags stays = (k : ℕ) → slice_index_or flags k false ≡ true → slice_index_or stays k true ≡ true
