-- Formulas that change by steps which keep satisfiability, and clauses that are RAT.
use Rattle.std.specs.Prelude.{◌≡◌, ◌⊎◌, ℕ, ◌<◌, Bool, true, false, List, length, IsTrue}
use Rattle.std.specs.Prelude.{slice_get, slice_index_or, Some}
use Rattle.gipsat_cnf.specs.Prelude.{Clause, Formula, Has, HasBut, IsAmong, IsSatisfiable, Lit}
use Rattle.gipsat_kernel.specs.Kernel.{original_among}
use Rattle.gipsat_kernel.specs.Marks.{ImpliesMarked}
use Rattle.gipsat_kernel.specs.Occurrences.{Covers}
use Rattle.gipsat_kernel.specs.declared.occurrences.Ids.{Ids}

-- where something satisfies the old formula, something satisfies the new one
abbrev pub KeepsSatisfiable : Formula → Formula → Type 0
KeepsSatisfiable old new = IsSatisfiable old → IsSatisfiable new

-- each clause has a flag, and is noted for its literals; while a derivation is open, the marked literals follow from the
-- clauses whose flag is set
pub record IsRatKernel (flags : List Bool) (clauses : List Clause) (noted : List Ids) (marks : List Bool) (is_open : Bool)
    : Type 0 where
  pub as_many : length flags ≡ length clauses
  pub covers : Covers noted clauses
  pub follows : IsTrue is_open → ImpliesMarked (original_among flags clauses) marks

-- each literal of the part is one of c's, or of d's but one: it is part of their resolvent, if that is the pivot's
-- negation
abbrev pub IsOfResolvent : Lit → Clause → Clause → Clause → Type 0
IsOfResolvent but c d part = (l : Lit) → Has part l → Has c l ⊎ HasBut but d l

-- a clause of the formula is part of the resolvent of c and d
abbrev pub HasResolvent : Formula → Lit → Clause → Clause → Type 0
HasResolvent formula but c d = (part : Clause) × IsAmong formula part × IsOfResolvent but c d part

-- each of the first n clauses that has the literal, if its flag is set, has its resolvent with c in the formula
abbrev pub AreResolved : List Bool → List Clause → Lit → Clause → ℕ → Type 0
AreResolved flags clauses but c n =
    (k : ℕ) (d : Clause) → k < n → slice_index_or flags k false ≡ true → slice_get clauses k ≡ Some d → Has d but
    → HasResolvent (original_among flags clauses) but c d
