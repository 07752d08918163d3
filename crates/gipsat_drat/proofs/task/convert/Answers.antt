-- What is told of what is held at first is told of the formula.
use Rattle.std.proofs.lemmas.Result.{IfOk-weaker}
use Rattle.gipsat_drat.proofs.OutcomeLemmas.{IsRight-of, IsRightOf-before}
use Rattle.gipsat_drat.proofs.task.convert.Goals as goal

pub returns-clause-right : goal.returns-clause-right
returns-clause-right g c =
    IfOk-weaker c.convert_steps.result _ _
    (λ outcome right. IsRight-of c.args.formula outcome (IsRightOf-before _ _ outcome c.in_ok-checker.ensures right)) c.convert_steps.ensures.right
