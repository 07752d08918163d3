-- The only answer is said.
use Rattle.std.proofs.Common.{◌∙◌}
use Rattle.gipmc_task.proofs.answers.leave_one.Goals as goal

pub returns-clause-tells : goal.returns-clause-tells
returns-clause-tells g c =
    (c.in_ok-answer.answer, c.said_by.ensures ∙ c.in_ok-answers.ensures.items, c.in_ok-answer.ensures.tells)

pub returns-clause-any : goal.returns-clause-any
returns-clause-any g c =
    (c.in_ok-answer.answer, c.said_by.ensures ∙ c.in_ok-answers.ensures.items, c.in_ok-answer.ensures.any)
