-- One variable more has its value.
use Rattle.gipsat_cnf.specs.Models.{assignment_in}
use Rattle.gipmc_circuits.proofs.Rows.{holds_next, holds_row}
use Rattle.gipmc_circuits.proofs.trace.holds_row.Goals as goal

pub loop-place-preserved : goal.loop-place-preserved
loop-place-preserved c =
    holds_next (assignment_in c.args.values.now) c.args.variables.now c.args.row.now c.loop-place.place _ c.value_of.result
    c.value_at.result c.loop-place.invariant c.value_of.ensures c.value_at.ensures c.if-value_of-value_at.false

pub returns : goal.returns
returns c is =
    holds_row (assignment_in c.args.values.now) c.args.variables.now c.args.row.now c.loop-place.place
    c.loop-place-test.false c.loop-place.invariant
