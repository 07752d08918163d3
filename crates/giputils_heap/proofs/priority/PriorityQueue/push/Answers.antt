-- There is room, the table has the priority, and the key is held.
use Rattle.std.proofs.Common.{sym, arith}
use Rattle.giputils_heap.proofs.Priorities.{compared-both, Joins-moved}
use Rattle.giputils_heap.proofs.priority.PriorityQueue.push.Goals as goal

pub returns-clause-keys : goal.returns-clause-keys
returns-clause-keys g c =
    rw (sym c.in_ok-make_room.ensures.keys)
    (Joins-moved g.T.HeapKey.number c.args.key _ _ _ c.change_priority-was.ensures.keys c.hold.ensures.keys)

pub returns-clause-compares : goal.returns-clause-compares
returns-clause-compares g c =
    let room = c.in_ok-make_room.ensures in
    let first = c.change_priority-was.ensures in
    let second = c.hold.ensures in
    rw (sym room.keys) record {
      rises = omega (arith, room.comparisons, first.compares.rises, second.compares.rises);
      comparisons =
          rw (sym room.comparisons)
          (compared-both g.T.HeapKey.number c.args.key _ _ _ _ _ first.keys first.compares.comparisons second.compares.comparisons);
    }
