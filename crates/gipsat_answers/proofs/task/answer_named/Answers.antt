-- The answer for the numbers is one for the names.
use Rattle.gipsat_answers.specs.Names.{named}
use Rattle.gipsat_answers.proofs.Renaming.{IfOk-more}
use Rattle.gipsat_answers.proofs.task.answer_named.Goals as goal

pub returns-clause-right : goal.returns-clause-right
returns-clause-right g c =
    let old = c.args.solver.now in
    let found = rw c.in-Some.is at c.in_ok-answer.ensures.right in
    let right = c.in_ok-answer-2.ensures old c.solve_named.new.solver c.args.task.limit c.requires.names found in
    IfOk-more c.answer_text.result
    (λ made tells. tells (record old { formula = named c.args.names.now old.formula }) c.solve_named.new.solver c.args.task.limit c.requires.new right)
    c.answer_text.ensures.right
