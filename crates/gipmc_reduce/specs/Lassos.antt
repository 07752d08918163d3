-- Lassos, which are traces that lead back to one of their moments.
use Rattle.std.specs.Prelude.{◌≡◌, ℕ, ◌+◌, ◌≤◌, ◌++◌, List, Vec, Bool, length, slice_get, Some, IsTrue}
use Rattle.std.specs.declared.alloc.Global.{Global}
use Rattle.gipsat_cnf.specs.Prelude.{Assignment, Has, Lit, is_true}
use Rattle.gipmc_circuits.specs.declared.circuit.Circuit.{Circuit}
use Rattle.gipmc_circuits.specs.declared.trace.Trace.{Trace}
use Rattle.gipmc_circuits.specs.Prelude.{Follows, HoldsRow, IsTrace, fits, is_transition, latch_variables}
use Rattle.gipmc_reduce.specs.declared.lasso.Lasso.{Lasso}

-- n transitions, and one more from the last moment back to that at which the loop starts
pub record LoopsBack (c : Circuit) (start n : ℕ) (t : ℕ → Assignment) : Type 0 where
  pub trace : IsTrace c n t
  pub within : start ≤ n
  pub back : IsTrue (is_transition c (t n) (t start))

-- the literal is true at a moment of the loop
abbrev pub IsMet : ℕ → ℕ → (ℕ → Assignment) → Lit → Type 0
IsMet start n t l = (m : ℕ) × (start ≤ m) × (m ≤ n) × IsTrue (is_true (t m) l)

-- each of the literals is
abbrev pub AllMet : ℕ → ℕ → (ℕ → Assignment) → List Lit → Type 0
AllMet start n t literals = (l : Lit) → Has literals l → IsMet start n t l

-- the rows of the lasso are the moments of one of the circuit, and in its loop each of the literals is true at some
-- moment
abbrev pub Loops : Circuit → List Lit → Lasso → Type 0
Loops c literals lasso =
    (n : ℕ) × (t : ℕ → Assignment) × (length lasso.trace.inputs.items ≡ n + 1) × LoopsBack c lasso.start n t
    × Follows c lasso.trace t × AllMet lasso.start n t literals

-- the lasso fits the circuit and is one of it, and in its loop each fairness constraint is true at some moment, and each
-- literal of the justice property
abbrev pub IsLasso : Circuit → List Lit → List Lit → Lasso → Type 0
IsLasso c fairness justice lasso = IsTrue (fits c lasso.trace) × Loops c (fairness ++ justice) lasso

-- the lasso whose loop starts at this moment of the trace
abbrev pub from : Trace → ℕ → Lasso
from trace start = record { trace = trace; start = start }

-- what the trace says of the moments up to this one
abbrev pub FollowsUpTo : ℕ → Circuit → Trace → (ℕ → Assignment) → Type 0
FollowsUpTo n c trace t =
    HoldsRow (t 0) (latch_variables c) trace.latches.items
    × ((i : ℕ) (row : Vec Bool Global) → i ≤ n → slice_get trace.inputs.items i ≡ Some row → HoldsRow (t i) c.inputs.items row.items)

-- the values are those at this moment of the trace
abbrev pub IsReachedBy : Circuit → Trace → ℕ → Assignment → Type 0
IsReachedBy c trace n a = (t : ℕ → Assignment) × IsTrace c n t × (t n ≡ a) × FollowsUpTo n c trace t
