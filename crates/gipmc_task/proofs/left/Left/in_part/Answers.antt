-- The part stands for what is left.
use Rattle.std.proofs.Common.{◌∙◌}
use Rattle.gipmc_task.proofs.OnWhole.{StandFor-part}
use Rattle.gipmc_task.proofs.left.Left.in_part.Goals as goal

pub returns-in-Some : goal.returns-in-Some
returns-in-Some c =
    let part = c.in-Some.part in
    let left = c.args.sweep.netlist.circuit in
    StandFor-part part.names.names.items part.netlist.circuit left part.netlist.circuit.bads.items left.bads.items
    c.in-Some.ensures.part (c.in-Some.ensures.bads ∙ c.deref.ensures.value)
