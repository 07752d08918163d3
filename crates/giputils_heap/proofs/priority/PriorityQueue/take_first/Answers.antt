-- The heap was in order by the table, so what it gives up comes first.
use Rattle.std.proofs.Common.{ap, sym, ◌∙◌}
use Rattle.giputils_heap.proofs.Priorities.{IsFirst-popped, IsPrioritized-popped}
use Rattle.giputils_heap.proofs.priority.PriorityQueue.take_first.Goals as goal

pub invariant_of-self : goal.invariant_of-self
invariant_of-self g c =
    IsPrioritized-popped g.T.HeapKey.number g.met.T.HeapKey.one_value g.P.Ord.cmp g.met.P.Ord.total c.self.inside.heap c.pop_counted-key.new.self
    c.self.inside.priorities.items c.self.invariant c.pop_counted-key.ensures.bound _ (ap (λ by. by.0.now) c.new-cmp.ensures.comparer ∙ c.deref.ensures.value) c.pop_counted-key.result
    c.pop_counted-key.ensures.pops

pub returns-clause-first : goal.returns-clause-first
returns-clause-first g c =
    rw (sym c.self.view_is)
    (IsFirst-popped g.T.HeapKey.number g.met.T.HeapKey.one_value g.P.Ord.cmp g.met.P.Ord.total c.self.inside.heap.keys c.self.inside.priorities.items _ _
    (ap (λ by. by.0.now) c.new-cmp.ensures.comparer ∙ c.deref.ensures.value) c.self.invariant.in_order c.pop_counted-key.result c.pop_counted-key.ensures.pops.greatest)
