-- The first moment is reached, and then one after another.
use Rattle.gipsat_cnf.specs.Models.{assignment_in}
use Rattle.gipmc_reduce.proofs.Replayed.{reached_first, reached_more}
use Rattle.gipmc_reduce.proofs.lasso.loop_start.Goals as goal

pub loop-place-init : goal.loop-place-init
loop-place-init c =
    let (initial, moment, latches, row) = rw (c.in-Some.is, c.deref.ensures.value, c.deref-2.ensures.value) at c.in_ok-begun.ensures in
    reached_first c.args.circuit.now c.args.trace.now (assignment_in c.in-Some.values.items) c.index.result.now
    c.index.ensures initial moment latches row

pub loop-place-preserved : goal.loop-place-preserved
loop-place-preserved c =
    let (goes, moment, row) = rw (
      c.in-Some-2.is,
      c.deref-in-loop-place.ensures.value,
      c.deref-in-loop-place-2.ensures.value,
    ) at c.in_ok-now.ensures in
    reached_more c.args.circuit.now c.args.trace.now c.loop-place.place (assignment_in c.loop-place.values.items)
    (assignment_in c.in-Some-2.now.items) c.index-in-loop-place.result.now c.loop-place.invariant
    c.index-in-loop-place.ensures goes moment row
