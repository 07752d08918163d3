-- One latch more comes of one of the whole circuit.
use Rattle.gipmc_reduce.specs.Correspondence.{latch_merged}
use Rattle.gipmc_reduce.proofs.Lists.{all_more_changed}
use Rattle.gipmc_reduce.proofs.correspondence.merged.latches_left.Goals as goal

pub loop-latch-preserved : goal.loop-latch-preserved
loop-latch-preserved c =
    rw (c.in_ok-push.ensures.items)
    (all_more_changed (latch_merged c.args.merges.now.literals.items) c.loop-latch.all.items c.args.latches.now c.latch.result c.latch-item.result
    c.loop-latch.latch-index c.latch-item.result c.loop-latch.invariant c.loop-latch-test.true c.latch-item.is c.latch.ensures)
