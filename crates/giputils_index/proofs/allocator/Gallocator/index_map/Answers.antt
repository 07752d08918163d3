-- The unmarked slots of a block are put into the map with the numbers of unmarked slots before them.
use Rattle.std.proofs.Common.{arith, nat_eq, take, ◌∙◌, ◌+◌}
use Rattle.giputils_hash.specs.Hash.{get}
use Rattle.giputils_index.proofs.IndexMaps.{put-up_to, up_to-all}
use Rattle.giputils_index.proofs.Renumbering.{new_index-le}
use Rattle.giputils_index.proofs.allocator.Gallocator.index_map.Goals as goal

pub put_in_turn-requires-clause-fits : goal.put_in_turn-requires-clause-fits
put_in_turn-requires-clause-fits g c =
    let now = c.loop-start in
    let end = now.start + c.min.result in
    let put = put-up_to c.args.self.now (get nat_eq now.indexes) now.start end now.next (take c.unmarked_between-count.result.1 c.unmarked_between-count.result.0)
    now.invariant.indexed now.invariant.next c.unmarked_between-count.ensures.unmarked in
    omega (arith, put.1, new_index-le c.args.self.now end, c.min.ensures, c.len-in-loop-start.ensures, c.deref.result.now.small)

pub loop-start-preserved : goal.loop-start-preserved
loop-start-preserved g c =
    let now = c.loop-start in
    let end = now.start + c.min.result in
    let put = put-up_to c.args.self.now (get nat_eq now.indexes) now.start end now.next (take c.unmarked_between-count.result.1 c.unmarked_between-count.result.0)
    now.invariant.indexed now.invariant.next c.unmarked_between-count.ensures.unmarked in
    record {
      inside = omega (arith, c.min.ensures, c.len-in-loop-start.ensures, now.invariant.inside);
      next = c.in_ok-next.ensures.next ∙ put.1;
      indexed = λ q. c.in_ok-next.ensures.values q ∙ put.0 q;
      unique = c.in_ok-next.ensures.unique;
    }

pub returns : goal.returns
returns g c = (
  λ i. c.loop-start.invariant.indexed i ∙ up_to-all c.args.self.now c.loop-start.start i (omega (arith, c.loop-start-test.false, c.len.ensures)),
  c.loop-start.invariant.unique,
)
