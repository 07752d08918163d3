-- What is defined is not changed.
use Rattle.std.proofs.Common.{◌≡◌, ◌-◌, length}
use Rattle.gipmc_aiger.specs.Defects.{defined_in}
use Rattle.gipmc_aiger.proofs.order.grow.Given as goal

abbrev pub invariant-loop-definitions : goal.invariant-loop-definitions
invariant-loop-definitions l = defined_in l.definitions.items ≡ defined_in l.fn.definitions.items

abbrev pub decreases-loop-definitions : goal.decreases-loop-definitions
decreases-loop-definitions l = l.len - length l.definitions.items
