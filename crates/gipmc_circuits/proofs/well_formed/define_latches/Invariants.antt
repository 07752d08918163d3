-- Those that are left are new and defined as all are.
use Rattle.std.proofs.Common.{◌≡◌, drop, map}
use Rattle.gipsat_cnf.specs.Models.{assignment_in}
use Rattle.gipmc_circuits.specs.WellFormed.{are_new, with_variables}
use Rattle.gipmc_circuits.proofs.well_formed.define_latches.Given as goal

abbrev pub invariant-loop-latch : goal.invariant-loop-latch
invariant-loop-latch l =
    (are_new (map (λ l. l.variable) l.fn.latches) (assignment_in l.fn.defined.items)
    ≡ are_new (map (λ l. l.variable) (drop l.latch-index l.fn.latches)) (assignment_in l.defined.items))
    × (with_variables (map (λ l. l.variable) l.fn.latches) (assignment_in l.fn.defined.items)
    ≡ with_variables (map (λ l. l.variable) (drop l.latch-index l.fn.latches)) (assignment_in l.defined.items))
