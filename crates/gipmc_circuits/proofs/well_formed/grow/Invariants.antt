-- What is defined is not changed.
use Rattle.std.proofs.Common.{◌≡◌, ◌-◌, length}
use Rattle.gipsat_cnf.specs.Models.{assignment_in}
use Rattle.gipmc_circuits.proofs.well_formed.grow.Given as goal

abbrev pub invariant-loop-defined : goal.invariant-loop-defined
invariant-loop-defined l = assignment_in l.defined.items ≡ assignment_in l.fn.defined.items

abbrev pub decreases-loop-defined : goal.decreases-loop-defined
decreases-loop-defined l = l.len - length l.defined.items
