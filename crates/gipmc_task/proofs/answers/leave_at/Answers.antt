-- Nothing is known of the literal at the place.
use Rattle.std.proofs.Common.{[], get_or, refl}
use Rattle.std.proofs.lemmas.Option.{slice_get-get_or}
use Rattle.std.proofs.lemmas.Result.{IfOk-weaker}
use Rattle.gipmc_task.specs.declared.verdict.Verdict.TheVariants.{Unknown}
use Rattle.gipmc_task.proofs.ForAll.{TellsAny-by, none_open}
use Rattle.gipmc_task.proofs.Told.{Tells-by}
use Rattle.gipmc_task.proofs.answers.leave_at.Goals as goal

pub returns-clause-tells : goal.returns-clause-tells
returns-clause-tells g c =
    let circuit = c.args.netlist.now.circuit in
    let bads = circuit.bads.items in
    let some = c.index-bad.result.now in
    IfOk-weaker c.tell.result _ _
    (λ a is. Tells-by circuit c.args.place (get_or bads c.args.place some) [] Unknown a
    (slice_get-get_or bads c.args.place some c.requires) tt tt is)
    c.tell.ensures.answer

pub returns-clause-any : goal.returns-clause-any
returns-clause-any g c =
    let circuit = c.args.netlist.now.circuit in
    IfOk-weaker c.tell.result _ _
    (λ a is. TellsAny-by circuit circuit.bads.items c.args.place Unknown a refl c.requires (λ bad here. tt)
    (λ all k bad here. none_open all) is)
    c.tell.ensures.answer
