-- What an engine finds out is so.
use Rattle.gipmc_task.proofs.JusticeTold.{IsKnown-by}
use Rattle.gipmc_task.proofs.justice.answers.find_out.Goals as goal

pub returns-in-Ok-clause-known : goal.returns-in-Ok-clause-known
returns-in-Ok-clause-known g c =
    let problem = c.args.problem.now in
    rw (c.verdict_by.ensures)
    (IsKnown-by problem.netlist.circuit problem.liveness.fairness.items c.args.property.now c.in-Ok.verdict
    (rw (c.deref.ensures.value) at c.in-Ok.ensures))
