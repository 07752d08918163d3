-- The true places are the members.
use Rattle.std.proofs.Common.{subst}
use Rattle.std.specs.Prelude.{IsTrue}
use Rattle.std.proofs.lemmas.Result.{IfOk-weaker}
use Rattle.giputils.specs.Ones.{true_places}
use Rattle.giputils.specs.Tables.{Lists}
use Rattle.giputils.proofs.Tables.{Lists-true_places}
use Rattle.giputils_uses.specs.SmallSet.{has}
use Rattle.giputils_uses.proofs.small_set.SmallSet.drain.Goals as goal

pub returns-clause-members : goal.returns-clause-members
returns-clause-members g c =
    let bits = c.self.inside.bits in
    IfOk-weaker c.take_places.result _ _
    (λ places same. rw same (subst (λ set. Lists (λ n. IsTrue (has set n)) (true_places 0 bits)) c.self.view_is (Lists-true_places bits)))
    c.take_places.ensures.places
