-- What holds at each moment of each run of a circuit.
use Rattle.std.specs.Prelude.{ℕ, ◌≤◌, IsTrue}
use Rattle.gipsat_cnf.specs.Prelude.{Assignment, Lit, is_true}
use Rattle.gipmc_circuits.specs.declared.circuit.Circuit.{Circuit}
use Rattle.gipmc_circuits.specs.Circuit.{IsTrace}

-- the literal is false at each moment of each trace
abbrev pub IsFalseThroughout : Circuit → Lit → Type 0
IsFalseThroughout c l =
    (n : ℕ) (t : ℕ → Assignment) → IsTrace c n t → (i : ℕ) → i ≤ n → ¬ (IsTrue (is_true (t i) l))
