-- The property is the one at the place.
use Rattle.std.proofs.Common.{length, refl}
use Rattle.std.proofs.lemmas.Option.{slice_get_read}
use Rattle.std.proofs.lemmas.Result.{IfOk-weaker}
use Rattle.gipmc_task.proofs.JusticeTold.{IsShownAt-by, Tells-by}
use Rattle.gipmc_task.proofs.justice.answers.answer_at.Goals as goal

pub returns-clause-tells : goal.returns-clause-tells
returns-clause-tells g c =
    let problem = c.args.problem.now in
    let properties = problem.liveness.justice.items in
    let property = c.index-property.result.now in
    let here = slice_get_read properties (length properties) c.args.place property refl c.requires c.index-property.ensures in
    IfOk-weaker c.tell.result _ _
    (λ a is. Tells-by problem.netlist.circuit problem.liveness c.args.place property c.find_out-verdict.result a here
    (rw (c.deref.ensures.value) at c.find_out-verdict.ensures.known) is)
    c.tell.ensures.answer

pub returns-clause-shown : goal.returns-clause-shown
returns-clause-shown g c =
    let problem = c.args.problem.now in
    let properties = problem.liveness.justice.items in
    let property = c.index-property.result.now in
    let here = slice_get_read properties (length properties) c.args.place property refl c.requires c.index-property.ensures in
    IfOk-weaker c.tell.result _ _
    (λ a is. IsShownAt-by problem.netlist.circuit problem.liveness c.args.place property c.find_out-verdict.result a here
    (rw (c.deref.ensures.value) at c.find_out-verdict.ensures.shown) is)
    c.tell.ensures.answer
