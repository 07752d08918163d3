-- One gate more is one of the whole circuit.
use Rattle.std.proofs.Common.{◌∙◌}
use Rattle.gipmc_reduce.specs.Cone.{gate_named}
use Rattle.gipmc_reduce.proofs.Lists.{all_more}
use Rattle.gipmc_reduce.proofs.cone.gates_in.Goals as goal

pub loop-gate-preserved : goal.loop-gate-preserved
loop-gate-preserved c =
    rw (c.in_ok-push.ensures.items)
    (all_more (gate_named c.args.names.now.names.items) c.loop-gate.all.items c.args.gates.now c.in-Some.own c.loop-gate.gate-index
    c.gate-item.result c.loop-gate.invariant c.loop-gate-test.true (c.in-Some.ensures ∙ c.gate-item.is))
