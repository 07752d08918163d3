-- Those that are left are in order and defined as all are.
use Rattle.std.proofs.Common.{◌≡◌, drop, map}
use Rattle.gipsat_cnf.specs.Models.{assignment_in}
use Rattle.gipmc_circuits.specs.WellFormed.{are_in_order, with_variables}
use Rattle.gipmc_circuits.proofs.well_formed.define_gates.Given as goal

abbrev pub invariant-loop-gate : goal.invariant-loop-gate
invariant-loop-gate l =
    (are_in_order l.fn.gates (assignment_in l.fn.defined.items) ≡ are_in_order (drop l.gate-index l.fn.gates) (assignment_in l.defined.items))
    × (with_variables (map (λ g. g.output) l.fn.gates) (assignment_in l.fn.defined.items)
    ≡ with_variables (map (λ g. g.output) (drop l.gate-index l.fn.gates)) (assignment_in l.defined.items))
