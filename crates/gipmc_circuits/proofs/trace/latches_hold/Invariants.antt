use Rattle.std.proofs.Common.{map}
use Rattle.gipsat_cnf.specs.Prelude.{AllBelow, assignment_in}
use Rattle.gipmc_circuits.proofs.Rows.{HoldsAt}
use Rattle.gipmc_circuits.proofs.trace.latches_hold.Given as goal

abbrev pub invariant-loop-place : goal.invariant-loop-place
invariant-loop-place l = AllBelow l.place (HoldsAt (assignment_in l.values) (map (λ x. x.variable) l.latches) l.row)
