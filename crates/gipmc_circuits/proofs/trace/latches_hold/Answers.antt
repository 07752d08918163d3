-- One latch more holds its value.
use Rattle.std.proofs.Common.{◌≤◌, map, sym, subst}
use Rattle.std.proofs.lemmas.List.{length-map}
use Rattle.gipsat_cnf.specs.Models.{assignment_in}
use Rattle.gipmc_circuits.proofs.Rows.{holds_next_mapped, holds_row}
use Rattle.gipmc_circuits.proofs.trace.latches_hold.Goals as goal

pub loop-place-preserved : goal.loop-place-preserved
loop-place-preserved c =
    holds_next_mapped (λ l. l.variable) (assignment_in c.args.values.now) c.args.latches.now c.args.row.now c.loop-place.place _
    c.value_of.result c.value_at.result c.loop-place.invariant c.value_of.ensures c.value_at.ensures c.if-value_of-value_at.false

pub returns : goal.returns
returns c is =
    holds_row (assignment_in c.args.values.now) (map (λ l. l.variable) c.args.latches.now) c.args.row.now c.loop-place.place
    (subst (λ n. n ≤ c.loop-place.place) (sym (length-map c.args.latches.now (λ l. l.variable))) c.loop-place-test.false) c.loop-place.invariant
