-- What is told of a property that fails is a witness of it.
use Rattle.std.proofs.Common.{◌≡◌, Some}
use Rattle.std.proofs.lemmas.Result.{IfOk-weaker}
use Rattle.gipmc_task.specs.Justice.Answers.{Tells, TellsAsked}
use Rattle.gipmc_task.specs.Verdicts.{texts_of, together}
use Rattle.gipmc_task.specs.Witnesses.{Replays}
use Rattle.gipmc_task.specs.declared.kind.PropertyKind.TheVariants.{Justice}
use Rattle.gipmc_task.specs.declared.outcome.Outcome.TheVariants.{Fails}
use Rattle.gipmc_task.proofs.Outcomes.{fails-one}
use Rattle.gipmc_task.proofs.Witnessed.{Replays-lasso}
use Rattle.gipmc_task.proofs.justice.answers.answer.Goals as goal

pub returns-clause-witness : goal.returns-clause-witness
returns-clause-witness g c place is =
    let p = c.args.problem.now in
    IfOk-weaker c.answer_asked.result
    (λ answers. TellsAsked p.netlist.circuit p.liveness c.args.asked answers.items)
    (λ answers. together answers.items ≡ Fails → Replays p Justice (texts_of answers.items) (Some place))
    (λ answers told. fails-one (Tells p.netlist.circuit p.liveness place) (λ t. Replays p Justice t (Some place)) answers.items
    (Replays-lasso p place) (rw is at told))
    c.answer_asked.ensures.tells
