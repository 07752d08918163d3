-- Those that are left are new and defined as all are.
use Rattle.std.proofs.Common.{◌≡◌, drop}
use Rattle.gipsat_cnf.specs.Models.{assignment_in}
use Rattle.gipmc_circuits.specs.WellFormed.{are_new, with_variables}
use Rattle.gipmc_circuits.proofs.well_formed.define_inputs.Given as goal

abbrev pub invariant-loop-input : goal.invariant-loop-input
invariant-loop-input l =
    (are_new l.fn.inputs (assignment_in l.fn.defined.items) ≡ are_new ((drop l.input-index l.fn.inputs)) (assignment_in l.defined.items))
    × (with_variables l.fn.inputs (assignment_in l.fn.defined.items)
    ≡ with_variables ((drop l.input-index l.fn.inputs)) (assignment_in l.defined.items))
