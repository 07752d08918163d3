-- The table and the heap's bound have grown alike, and no held key has another priority.
use Rattle.std.proofs.Common.{◌≡◌, ◌+◌, ◌-◌, length, sym, arith}
use Rattle.std.specs.Prelude.{replicate}
use Rattle.std.proofs.lemmas.Grind.{common_steps}
use Rattle.std.proofs.lemmas.List.{length-append, length-replicate}
use Rattle.giputils_heap.proofs.Priorities.{priority_of-filled, IsPrioritized-filled}
use Rattle.giputils_heap.proofs.priority.PriorityQueue.make_room.Goals as goal

pub invariant_of-self-2 : goal.invariant_of-self-2
invariant_of-self-2 g c =
    let heap = c.self.inside.heap in
    let table = c.self.inside.priorities.items in
    let missing = c.key.result + 1 - length table in
    let more = replicate missing c.args.priority in
    let bound : c.raise_bound.new.self.bound ≡ length table + missing =
    grind (arith, common_steps, c.in_ok-raise_bound.ensures.bound, c.self.invariant.bound, c.if-entries-len.false, c.len-len.ensures) in
    rw (c.fill_up.ensures, c.in_ok-reserve.ensures.items)
    (IsPrioritized-filled g.T.HeapKey.number g.met.T.HeapKey.one_value g.P.Ord.cmp g.met.P.Ord.total heap c.raise_bound.new.self table more
    c.self.invariant c.in_ok-raise_bound.ensures.keys (rw (length-append table more, length-replicate missing c.args.priority) bound))

pub returns-clause-same : goal.returns-clause-same
returns-clause-same g c k =
    let table = c.self.inside.priorities.items in
    let more = replicate (c.key.result + 1 - length table) c.args.priority in
    rw (sym c.self.view_is, c.fill_up.ensures, c.in_ok-reserve.ensures.items, c.in_ok-raise_bound.ensures.keys)
    (priority_of-filled g.T.HeapKey.number c.self.inside.heap.keys table more 0 0 c.self.invariant.below k)
