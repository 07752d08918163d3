-- One latch more is one of the whole circuit.
use Rattle.std.proofs.Common.{◌∙◌}
use Rattle.gipmc_reduce.specs.Cone.{latch_named}
use Rattle.gipmc_reduce.proofs.Lists.{all_more}
use Rattle.gipmc_reduce.proofs.cone.latches_in.Goals as goal

pub loop-latch-preserved : goal.loop-latch-preserved
loop-latch-preserved c =
    rw (c.in_ok-push.ensures.items)
    (all_more (latch_named c.args.names.now.names.items) c.loop-latch.all.items c.args.latches.now c.in-Some.own c.loop-latch.latch-index
    c.latch-item.result c.loop-latch.invariant c.loop-latch-test.true (c.in-Some.ensures ∙ c.latch-item.is))
