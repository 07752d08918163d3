-- The literals of the part stand for those that are asked for.
use Rattle.gipmc_task.proofs.OnWhole.{StandFor-part}
use Rattle.gipmc_task.proofs.answers.answer_about.Goals as goal

pub answer_by-requires-clause-part : goal.answer_by-requires-clause-part
answer_by-requires-clause-part g c =
    let part = c.in-Some.part in
    StandFor-part part.names.names.items part.netlist.circuit c.args.netlist.now.circuit part.netlist.circuit.bads.items
    c.args.bads.now c.in-Some.ensures.part c.in-Some.ensures.bads
