-- What is told of what is held at first is told of the formula.
use Rattle.std.proofs.lemmas.Result.{IfOk-weaker}
use Rattle.gipsat_drat.proofs.OutcomeLemmas.{IsRight-of, IsRightOf-before}
use Rattle.gipsat_drat.proofs.task.check_hinted.Goals as goal

pub returns : goal.returns
returns g c =
    IfOk-weaker c.check_hinted_steps.result _ _
    (λ outcome right. IsRight-of c.args.formula outcome (IsRightOf-before _ _ outcome c.in_ok-checker.ensures right)) c.check_hinted_steps.ensures
