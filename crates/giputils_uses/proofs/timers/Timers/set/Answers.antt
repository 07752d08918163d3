-- The timer runs, and its deadline is changed.
use Rattle.std.proofs.Common.{sym, ◌∙◌}
use Rattle.giputils.proofs.HoldAlike.{HoldAlike-IsPermutation}
use Rattle.giputils_uses.proofs.Picked.{deadlines_of-set}
use Rattle.giputils_uses.proofs.timers.Timers.set.Goals as goal

pub returns-clause-runs : goal.returns-clause-runs
returns-clause-runs g c =
    rw (sym c.self.view_is) (λ q. sym (HoldAlike-IsPermutation (λ k. k) _ _ c.change_priority.ensures.keys q) ∙ c.hold.ensures.keys.alike q)

pub returns-clause-deadline : goal.returns-clause-deadline
returns-clause-deadline g c =
    rw (sym c.self.view_is, c.change_priority.ensures.priorities, c.hold.ensures.priorities)
    (deadlines_of-set c.self.inside.queue.priorities c.args.timer c.args.deadline)
