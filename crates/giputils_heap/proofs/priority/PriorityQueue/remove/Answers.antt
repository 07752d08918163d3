-- The heap was in order by the table, and is so without the key.
use Rattle.std.proofs.Common.{ap, ◌∙◌}
use Rattle.giputils_heap.proofs.Priorities.{IsPrioritized-removed}
use Rattle.giputils_heap.proofs.priority.PriorityQueue.remove.Goals as goal

pub invariant_of-self : goal.invariant_of-self
invariant_of-self g c =
    IsPrioritized-removed g.T.HeapKey.number g.met.T.HeapKey.one_value g.P.Ord.cmp g.met.P.Ord.total c.self.inside.heap c.remove_counted.new.self
    c.self.inside.priorities.items c.self.invariant c.remove_counted.ensures.bound _ (ap (λ by. by.0.now) c.new-cmp.ensures.comparer ∙ c.deref.ensures.value) c.args.key c.remove_counted.result
    c.remove_counted.ensures.removes
