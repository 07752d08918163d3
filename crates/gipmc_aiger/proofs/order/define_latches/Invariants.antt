-- Those so far are defined.
use Rattle.std.proofs.Common.{◌≡◌, map, take}
use Rattle.gipmc_circuits.specs.WellFormed.{with_variables}
use Rattle.gipmc_aiger.specs.Defects.{defined_in}
use Rattle.gipmc_aiger.proofs.order.define_latches.Given as goal

abbrev pub invariant-loop-latch : goal.invariant-loop-latch
invariant-loop-latch l =
    defined_in l.definitions.items
    ≡ with_variables (take l.latch-index (map (λ l. l.variable) l.fn.latches)) (defined_in l.fn.definitions.items)
