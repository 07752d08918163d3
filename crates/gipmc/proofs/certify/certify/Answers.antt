-- The certificate of the problem is of the one that the bytes write.
use Rattle.std.proofs.lemmas.Result.{IfOk-weaker}
use Rattle.gipmc.proofs.certify.certify.Goals as goal

pub returns : goal.returns
returns c =
    IfOk-weaker c.certify_asked.result _ _
    (λ verified right is. (c.in_ok-problem.problem, c.in_ok-problem.ensures, right is)) c.certify_asked.ensures
