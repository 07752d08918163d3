-- One deadline came nearer.
use Rattle.std.proofs.Common.{◌≡◌, min, sym}
use Rattle.std.specs.Prelude.{slice_index}
use Rattle.giputils_uses.specs.Clock.{deadlines_of}
use Rattle.giputils_uses.proofs.Picked.{deadlines_of-set, slice_index-deadlines_of}
use Rattle.giputils_uses.proofs.timers.Timers.hasten.Goals as goal

pub returns-clause-deadline : goal.returns-clause-deadline
returns-clause-deadline g c =
    let table = c.self.inside.queue.priorities in
    let earlier : c.min-earlier.result ≡ min (slice_index (deadlines_of table) c.args.timer) c.args.deadline =
    rw (slice_index-deadlines_of table c.args.timer) (rw c.priorities.ensures at c.min-earlier.ensures) in
    rw (sym c.self.view_is, c.change_priority.ensures.priorities, ← earlier) (deadlines_of-set table c.args.timer c.min-earlier.result)
