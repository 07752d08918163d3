use Rattle.giputils_uses.proofs.Picked.{deadlines_of-replicate}
use Rattle.giputils_uses.proofs.timers.Timers.new.Goals as goal

pub returns-clause-deadlines : goal.returns-clause-deadlines
returns-clause-deadlines g c = rw c.in_ok-with_bound.ensures.priorities (deadlines_of-replicate c.args.count 0)
