-- What push_or_update leaves held.
use Rattle.std.proofs.lemmas.Result.{on_ok_weaker}
use Rattle.giputils.proofs.Pushes.{HoldAlike-pushes_or_updates, length-pushes_or_updates}
use Rattle.giputils_uses.proofs.paths.wait.Goals as goal

pub returns : goal.returns
returns g c =
    on_ok_weaker c.push_or_update.result
    (λ pushed. (HoldAlike-pushes_or_updates (λ k. k) pushed, length-pushes_or_updates (λ k. k) pushed)) c.push_or_update.ensures.pushes_or_updates
