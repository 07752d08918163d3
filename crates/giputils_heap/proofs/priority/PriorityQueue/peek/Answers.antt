-- The heap is in order by the table, so what stands first comes first.
use Rattle.std.proofs.Common.{◌≡◌, Some, sym}
use Rattle.std.specs.Prelude.{slice_get}
use Rattle.std.proofs.lemmas.Option.{slice_get_read}
use Rattle.giputils_heap.proofs.Priorities.{IsFirst-peeked}
use Rattle.giputils_heap.proofs.priority.PriorityQueue.peek.Goals as goal

pub returns-clause-first : goal.returns-clause-first
returns-clause-first g c =
    let number = g.T.HeapKey.number in
    let heap = c.self.inside.heap in
    let table = c.self.inside.priorities.items in
    let k = c.in_ok-key.key in
    let there : slice_get table (number k) ≡ Some c.index.result.now =
    slice_get_read table heap.bound (number k) c.index.result.now c.self.invariant.bound c.in_ok-key.ensures.in_bound (rw c.key.ensures at c.index.ensures) in
    rw (sym c.self.view_is)
    (IsFirst-peeked number g.met.T.HeapKey.one_value g.P.Ord.cmp g.met.P.Ord.total heap.keys table c.self.inside.comparisons c.self.invariant.in_order k
    c.index.result.now c.in_ok-key.ensures.peeks.greatest there)
