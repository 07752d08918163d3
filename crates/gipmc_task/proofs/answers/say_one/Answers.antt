-- The only answer is said.
use Rattle.gipmc_task.proofs.answers.say_one.Goals as goal

pub returns-clause-tells : goal.returns-clause-tells
returns-clause-tells g c = (c.in_ok-answer.answer, c.in_ok-answers.ensures.items, c.in_ok-answer.ensures.tells)
