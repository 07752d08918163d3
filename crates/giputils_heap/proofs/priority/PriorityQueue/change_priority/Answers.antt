-- The table changed at one key, and the heap put that right.
use Rattle.std.proofs.Common.{length, ap, sym, ◌∙◌}
use Rattle.giputils_bounded.proofs.HoldAlike.{HoldAlike-IsPermutation}
use Rattle.giputils_bounded.proofs.KeySets.{is_held-below}
use Rattle.giputils_heap.proofs.Priorities.{ChangesAt-changed, IsPrioritized-updated}
use Rattle.giputils_heap.proofs.priority.PriorityQueue.change_priority.Goals as goal

pub invariant_of-self : goal.invariant_of-self
invariant_of-self g c =
    let wrote = rw c.key.ensures at c.write.ensures in
    rw wrote
    (IsPrioritized-updated g.T.HeapKey.number g.met.T.HeapKey.one_value g.P.Ord.cmp g.met.P.Ord.total c.self.inside.heap c.update_counted.new.self
    c.self.inside.priorities.items c.self.invariant c.update_counted.ensures.bound c.args.key c.args.priority _
    ((ap (λ by. by.0.now) c.new-cmp.ensures.comparer ∙ c.deref.ensures.value) ∙ wrote) c.update_counted.ensures.updates)

pub returns-clause-changes : goal.returns-clause-changes
returns-clause-changes g c =
    let number = g.T.HeapKey.number in
    let heap = c.self.inside.heap in
    let table = c.self.inside.priorities.items in
    let wrote = rw c.key.ensures at c.write.ensures in
    rw (sym c.self.view_is, wrote)
    (ChangesAt-changed number c.args.key c.args.priority heap.keys c.update_counted.new.self.keys table _ _
    (λ q. sym (HoldAlike-IsPermutation number heap.keys c.update_counted.new.self.keys c.update_counted.ensures.updates.moved q))
    (is_held-below number (length table) heap.keys c.args.key c.self.invariant.below))
