-- Runs without end, and when a circuit is live.
use Rattle.std.specs.Prelude.{ℕ, ◌+◌, ◌≤◌, ◌++◌, List, IsTrue}
use Rattle.gipsat_cnf.specs.Prelude.{Assignment, Has, Lit, is_true}
use Rattle.gipmc_circuits.specs.declared.circuit.Circuit.{Circuit}
use Rattle.gipmc_circuits.specs.Circuit.{is_initial, is_moment, is_transition}

-- transitions without end from an initial moment on, with a moment behind each
pub record IsRun (c : Circuit) (t : ℕ → Assignment) : Type 0 where
  pub initial : IsTrue (is_initial c (t 0))
  pub moments : (i : ℕ) → IsTrue (is_moment c (t i))
  pub transitions : (i : ℕ) → IsTrue (is_transition c (t i) (t (i + 1)))

-- the literal is true again and again: at or behind each moment there is one at which it is
abbrev pub Recurs : (ℕ → Assignment) → Lit → Type 0
Recurs t l = (n : ℕ) → (m : ℕ) × (n ≤ m) × IsTrue (is_true (t m) l)

-- each of the literals recurs
abbrev pub AllRecur : (ℕ → Assignment) → List Lit → Type 0
AllRecur t literals = (l : Lit) → Has literals l → Recurs t l

-- on a run each fairness constraint recurs, and each literal of the justice property
abbrev pub FailsForever : Circuit → List Lit → List Lit → Type 0
FailsForever c fairness justice = (t : ℕ → Assignment) × IsRun c t × AllRecur t (fairness ++ justice)

-- on no run do they all recur
abbrev pub IsLive : Circuit → List Lit → List Lit → Type 0
IsLive c fairness justice = ¬ (FailsForever c fairness justice)
