-- Those so far, and those that are left.
use Rattle.std.proofs.Common.{◌≡◌, ◌++◌, drop, not}
use Rattle.std.specs.Prelude.{filter}
use Rattle.gipsat_cnf.specs.Models.{assignment_in}
use Rattle.gipmc_circuits.proofs.witness_circuit.unmarked.Given as goal

abbrev pub invariant-loop-variable : goal.invariant-loop-variable
invariant-loop-variable l =
    filter (λ v. not (assignment_in l.marks v)) l.variables
    ≡ l.left.items ++ filter (λ v. not (assignment_in l.marks v)) (drop l.variable-index l.variables)
