-- The heap was lent the table, and the table stays.
use Rattle.std.proofs.Common.{◌<◌, length, ap, sym, ◌∙◌}
use Rattle.giputils_heap.proofs.Priorities.{ChangesAt-joined, IsPrioritized-pushed, Joins-pushes}
use Rattle.giputils_heap.proofs.Pushes.{HoldAlike-pushes}
use Rattle.giputils_heap.proofs.priority.PriorityQueue.hold.Goals as goal

pub invariant_of-self : goal.invariant_of-self
invariant_of-self g c =
    let inside : g.T.HeapKey.number c.args.key < length c.self.inside.priorities.items = rw (ap (λ q. q.priorities) c.self.view_is) c.requires in
    let by = ap (λ by. by.0.now) c.new-cmp.ensures.comparer ∙ c.deref.ensures.value in
    IsPrioritized-pushed g.T.HeapKey.number g.met.T.HeapKey.one_value g.P.Ord.cmp g.met.P.Ord.total c.self.inside.heap c.push_counted.new.self
    c.self.inside.priorities.items c.self.invariant c.push_counted.ensures.bound _ by c.args.key inside c.push_counted.ensures.pushes

pub returns-clause-changes : goal.returns-clause-changes
returns-clause-changes g c =
    rw (sym c.self.view_is)
    (ChangesAt-joined g.T.HeapKey.number c.args.key c.self.inside.heap.keys c.push_counted.new.self.keys c.self.inside.priorities.items _ _
    (HoldAlike-pushes g.T.HeapKey.number c.push_counted.ensures.pushes))

pub returns-clause-keys : goal.returns-clause-keys
returns-clause-keys g c = rw (sym c.self.view_is) (Joins-pushes g.T.HeapKey.number c.args.key _ _ c.push_counted.ensures.pushes)
