-- Those so far are defined.
use Rattle.std.proofs.Common.{◌≡◌, take}
use Rattle.gipmc_circuits.specs.WellFormed.{with_variables}
use Rattle.gipmc_aiger.specs.Defects.{defined_in}
use Rattle.gipmc_aiger.proofs.order.define_inputs.Given as goal

abbrev pub invariant-loop-input : goal.invariant-loop-input
invariant-loop-input l =
    defined_in l.definitions.items
    ≡ with_variables (take l.input-index l.fn.inputs) (defined_in l.fn.definitions.items)
