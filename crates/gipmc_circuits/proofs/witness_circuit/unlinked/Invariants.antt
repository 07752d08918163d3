-- Those so far, and those that are left.
use Rattle.std.proofs.Common.{◌≡◌, ◌++◌, drop, not}
use Rattle.std.specs.Prelude.{filter}
use Rattle.gipsat_cnf.specs.Models.{assignment_in}
use Rattle.gipmc_circuits.proofs.witness_circuit.unlinked.Given as goal

abbrev pub invariant-loop-register : goal.invariant-loop-register
invariant-loop-register l =
    filter (λ r. not (assignment_in l.marks r.variable)) l.registers
    ≡ l.own.items ++ filter (λ r. not (assignment_in l.marks r.variable)) (drop l.register-index l.registers)
