-- The only answer is given.
use Rattle.std.proofs.Common.{[]}
use Rattle.gipmc_task.proofs.JusticeTold.{AreShown-more}
use Rattle.gipmc_task.proofs.justice.answers.answer_one.Goals as goal

pub returns-clause-tells : goal.returns-clause-tells
returns-clause-tells g c = (c.in_ok-answer.answer, c.in_ok-answers.ensures.items, c.in_ok-answer.ensures.tells)

pub returns-clause-shown : goal.returns-clause-shown
returns-clause-shown g c =
    let problem = c.args.problem.now in
    rw (c.in_ok-answers.ensures.items)
    (AreShown-more problem.netlist.circuit problem.liveness [] c.in_ok-answer.answer c.args.place tt
    c.in_ok-answer.ensures.tells c.in_ok-answer.ensures.shown)
