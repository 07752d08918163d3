-- The true places are the members.
use Rattle.std.proofs.lemmas.Result.{IfOk-weaker}
use Rattle.giputils.proofs.Tables.{Lists-true_places}
use Rattle.giputils_uses.proofs.small_set.SmallSet.members.Goals as goal

pub returns : goal.returns
returns g c = IfOk-weaker c.places.result _ _ (λ places same. rw same (Lists-true_places c.args.self.now)) c.places.ensures
