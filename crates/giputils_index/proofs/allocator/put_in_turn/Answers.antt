use Rattle.std.proofs.Common.{arith, nat_eq}
use Rattle.giputils_hash.specs.Hash.{get}
use Rattle.giputils_index.proofs.IndexMaps.{put_in_turn-step}
use Rattle.giputils_index.proofs.allocator.put_in_turn.Goals as goal

pub loop-key-preserved : goal.loop-key-preserved
loop-key-preserved g c =
    let now = c.loop-key in
    record {
      next = omega (arith, now.invariant.next);
      values = put_in_turn-step (get nat_eq c.args.indexes.now) (get nat_eq now.indexes) (get nat_eq c.insert.new.self) c.args.keys.now now.key-index c.args.first now.next _
          c.loop-key-test.true now.invariant.next now.invariant.values c.in_ok-insert.ensures.values;
      unique = c.in_ok-insert.ensures.unique;
    }
