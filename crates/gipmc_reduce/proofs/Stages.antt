-- Stages that are added one after another.
use Rattle.std.proofs.Common.{◌≡◌, ℕ, ◌+◌, ◌*◌, ◌++◌, List, length, drop}
use Rattle.gipsat_cnf.specs.Literals.{Lit}
use Rattle.gipmc_circuits.specs.declared.circuit.And.{And}
use Rattle.gipmc_circuits.specs.declared.circuit.Circuit.{Circuit}
use Rattle.gipmc_circuits.specs.declared.circuit.Latch.{Latch}
use Rattle.gipmc_reduce.specs.Chains.{all_passed, stage_gates, stage_latches}
use Rattle.gipmc_reduce.specs.Turns.{always}

-- the latches, the gates and the last literal of the stages from a place on
abbrev latches_from : ℕ → List Lit → ℕ → List Latch
latches_from n stages k = stage_latches (n + k) (n + length stages + 2 * k) (drop k stages)

abbrev gates_from : ℕ → List Lit → ℕ → Lit → List And
gates_from n stages k before = stage_gates (n + k) (n + length stages + 2 * k) before (drop k stages)

-- what is there so far, and what is left, are all of the stages
pub record StagesSoFar (old now : Circuit) (n : ℕ) (stages : List Lit) (k : ℕ) (before : Lit) : Type 0 where
  pub inputs : now.inputs.items ≡ old.inputs.items
  pub latches : now.latches.items ++ latches_from n stages k
      ≡ old.latches.items ++ stage_latches n (n + length stages) stages
  pub gates : now.gates.items ++ gates_from n stages k before
      ≡ old.gates.items ++ stage_gates n (n + length stages) always stages
  pub bads : now.bads.items ≡ old.bads.items
  pub constraints : now.constraints.items ≡ old.constraints.items
  pub last : all_passed (n + k) before (drop k stages) ≡ all_passed n always stages
