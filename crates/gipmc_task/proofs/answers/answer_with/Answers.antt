-- The search is about the circuit.
use Rattle.std.proofs.Common.{subst}
use Rattle.std.specs.Prelude.{IfOk}
use Rattle.gipmc_task.specs.Answers.{TellsAsked}
use Rattle.gipmc_task.proofs.answers.answer_with.Goals as goal

pub returns-clause-tells : goal.returns-clause-tells
returns-clause-tells g c =
    subst (λ n. IfOk c.say.result (λ said. TellsAsked n.circuit c.args.asked c.args.output.now.order said.answers.items))
    c.new-query.ensures.whole c.say.ensures.tells
