-- The lasso is one of the property that is read, and gives a run.
use Rattle.std.proofs.Common.{length, refl}
use Rattle.std.proofs.lemmas.Option.{slice_get_read}
use Rattle.gipmc_reduce.specs.Lassos.{IsLasso, from}
use Rattle.gipmc_reduce.proofs.Looped.{FailsForever-lasso}
use Rattle.gipmc_task.proofs.witnesses.is_lasso_at.Goals as goal

pub returns-in-Some : goal.returns-in-Some
returns-in-Some c fails =
    let properties = c.args.problem.now.liveness.justice.items in
    let here = slice_get_read properties (length properties) c.args.place c.index.result.now refl c.requires c.index.ensures in
    let circuit = c.args.problem.now.netlist.circuit in
    let fairness = c.args.problem.now.liveness.fairness.items in
    let justice = c.index.result.now.items in
    let lasso : IsLasso circuit fairness justice (from c.args.trace.now c.in-Some.field-0) =
    rw (c.in-Some.is, c.deref.ensures.value, c.deref-2.ensures.value) at c.in_ok-closed.ensures in
    (c.index.result.now, here, (c.in-Some.field-0, lasso), FailsForever-lasso circuit fairness justice (from c.args.trace.now c.in-Some.field-0) lasso)
