-- What comes first by score is most active.
use Rattle.std.proofs.Common.{sym}
use Rattle.giputils_uses.proofs.Picked.{HasGreatestRank-first}
use Rattle.giputils_uses.proofs.activity.Activity.pick.Goals as goal

pub returns-clause-picked : goal.returns-clause-picked
returns-clause-picked g c =
    rw (sym c.self.view_is)
    (HasGreatestRank-first c.self.inside.queue c.in_ok-variable.variable c.in_ok-variable.field-0-1 c.in_ok-variable.ensures.first)
