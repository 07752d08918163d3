-- What comes first by deadline is earliest.
use Rattle.std.proofs.Common.{sym}
use Rattle.giputils_uses.proofs.Picked.{IsEarliest-first}
use Rattle.giputils_uses.proofs.timers.Timers.next.Goals as goal

pub returns-clause-earliest : goal.returns-clause-earliest
returns-clause-earliest g c =
    rw (sym c.self.view_is) (IsEarliest-first c.self.inside.queue c.in_ok-timer.timer c.in_ok-timer.field-0-1 c.in_ok-timer.ensures.first)
