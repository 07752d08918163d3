-- What is told of a literal that fails is a witness of it.
use Rattle.std.proofs.Common.{◌≡◌, None, Some}
use Rattle.std.proofs.lemmas.Result.{IfOk-weaker}
use Rattle.gipmc_task.specs.Answers.{Tells, TellsAny, TellsAsked}
use Rattle.gipmc_task.specs.Verdicts.{texts_of, together}
use Rattle.gipmc_task.specs.Witnesses.{Replays}
use Rattle.gipmc_task.specs.declared.kind.PropertyKind.TheVariants.{Bad}
use Rattle.gipmc_task.specs.declared.outcome.Outcome.TheVariants.{Fails}
use Rattle.gipmc_task.proofs.Outcomes.{fails-one}
use Rattle.gipmc_task.proofs.Witnessed.{Replays-any, Replays-told}
use Rattle.gipmc_task.proofs.answers.answer.Goals as goal

pub returns-clause-witness : goal.returns-clause-witness
returns-clause-witness g c p place same is =
    IfOk-weaker c.answer_asked.result
    (λ said. TellsAsked c.args.netlist.now.circuit c.args.asked c.args.output.now.order said.answers.items)
    (λ said. together said.answers.items ≡ Fails → Replays p Bad (texts_of said.answers.items) (Some place))
    (λ said told. fails-one (Tells p.netlist.circuit place) (λ t. Replays p Bad t (Some place)) said.answers.items
    (Replays-told p place) (rw same (rw is at told)))
    c.answer_asked.ensures.tells

pub returns-clause-any : goal.returns-clause-any
returns-clause-any g c p same is =
    IfOk-weaker c.answer_asked.result
    (λ said. TellsAsked c.args.netlist.now.circuit c.args.asked c.args.output.now.order said.answers.items)
    (λ said. together said.answers.items ≡ Fails → Replays p Bad (texts_of said.answers.items) None)
    (λ said told. fails-one (TellsAny p.netlist.circuit) (λ t. Replays p Bad t None) said.answers.items (Replays-any p)
    (rw same (rw is at told)))
    c.answer_asked.ensures.tells
