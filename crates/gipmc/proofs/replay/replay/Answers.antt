-- The witnesses of the problem are of the one that the bytes write.
use Rattle.std.proofs.lemmas.Result.{IfOk-weaker}
use Rattle.gipmc.proofs.replay.replay.Goals as goal

pub returns : goal.returns
returns c =
    IfOk-weaker c.replay_asked.result _ _
    (λ verified right is. (c.in_ok-problem.problem, c.in_ok-problem.ensures, right is)) c.replay_asked.ensures
