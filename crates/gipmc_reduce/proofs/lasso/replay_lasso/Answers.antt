-- A lasso gives a run.
use Rattle.std.specs.Prelude.{IsTrue}
use Rattle.std.proofs.lemmas.Result.{IfOk-weaker}
use Rattle.gipmc_reduce.specs.Lassos.{IsLasso}
use Rattle.gipmc_reduce.specs.Liveness.{FailsForever}
use Rattle.gipmc_reduce.proofs.Looped.{FailsForever-lasso}
use Rattle.gipmc_reduce.proofs.lasso.replay_lasso.Goals as goal

pub returns-clause-fails : goal.returns-clause-fails
returns-clause-fails c =
    let circuit = c.args.netlist.now.circuit in
    let fairness = c.args.fairness.now in
    let justice = c.args.justice.now in
    IfOk-weaker c.is_lasso.result (λ is. IsTrue is → IsLasso circuit fairness justice c.args.lasso.now)
    (λ is. IsTrue is → FailsForever circuit fairness justice)
    (λ is shows yes. FailsForever-lasso circuit fairness justice c.args.lasso.now (shows yes)) c.is_lasso.ensures
