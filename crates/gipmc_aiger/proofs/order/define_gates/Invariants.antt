-- Those so far are defined.
use Rattle.std.proofs.Common.{◌≡◌, map, take}
use Rattle.gipmc_circuits.specs.WellFormed.{with_variables}
use Rattle.gipmc_aiger.specs.Defects.{defined_in}
use Rattle.gipmc_aiger.proofs.order.define_gates.Given as goal

abbrev pub invariant-loop-place : goal.invariant-loop-place
invariant-loop-place l =
    defined_in l.definitions.items
    ≡ with_variables (take l.place (map (λ g. g.output) l.fn.gates)) (defined_in l.fn.definitions.items)
