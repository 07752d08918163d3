-- What is shown of the problem is shown of the one that the bytes write.
use Rattle.std.proofs.lemmas.Result.{IfOk-weaker}
use Rattle.gipmc.proofs.join.join.Goals as goal

pub returns : goal.returns
returns g c =
    IfOk-weaker c.join_parts.result _ _
    (λ verified right is. (c.in_ok-problem.problem, c.in_ok-problem.ensures, right is)) c.join_parts.ensures
