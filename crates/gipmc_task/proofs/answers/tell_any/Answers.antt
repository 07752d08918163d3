-- What is known of the one literal is answered in place of all.
use Rattle.std.proofs.lemmas.Result.{IfOk-weaker}
use Rattle.gipmc_task.proofs.ForAll.{TellsAny-by}
use Rattle.gipmc_task.proofs.answers.tell_any.Goals as goal

pub returns-clause-tells : goal.returns-clause-tells
returns-clause-tells g c =
    let query = c.args.query.now in
    let found = c.find_any-found in
    IfOk-weaker c.tell.result _ _
    (λ a is. TellsAny-by query.whole.now.circuit query.bads.now found.result.place found.result.known a c.requires.all
    found.ensures.within found.ensures.right found.ensures.safe is)
    c.tell.ensures.answer
