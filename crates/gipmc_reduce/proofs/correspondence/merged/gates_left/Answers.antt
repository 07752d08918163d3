-- One gate more comes of one of the whole circuit.
use Rattle.gipmc_reduce.specs.Correspondence.{gate_merged}
use Rattle.gipmc_reduce.proofs.Lists.{all_more_changed}
use Rattle.gipmc_reduce.proofs.correspondence.merged.gates_left.Goals as goal

pub loop-gate-preserved : goal.loop-gate-preserved
loop-gate-preserved c =
    rw (c.in_ok-push.ensures.items)
    (all_more_changed (gate_merged c.args.merges.now.literals.items) c.loop-gate.all.items c.args.gates.now c.gate.result c.gate-item.result
    c.loop-gate.gate-index c.gate-item.result c.loop-gate.invariant c.loop-gate-test.true c.gate-item.is c.gate.ensures)
