use Rattle.gipsat_cnf.specs.Prelude.{AllBelow, assignment_in}
use Rattle.gipmc_circuits.proofs.Rows.{HoldsAt}
use Rattle.gipmc_circuits.proofs.trace.holds_row.Given as goal

abbrev pub invariant-loop-place : goal.invariant-loop-place
invariant-loop-place l = AllBelow l.place (HoldsAt (assignment_in l.values) l.variables l.row)
