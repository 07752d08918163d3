use Rattle.std.proofs.Common.{arith, length, not, ◌<◌, ◌∙◌}
use Rattle.std.proofs.lemmas.List.{length-set}
use Rattle.giputils_index.proofs.IndexMaps.{bool_byte-one, AreUnmarked-step}
use Rattle.giputils_index.proofs.allocator.Gallocator.unmarked_between.Goals as goal

pub loop-index-preserved : goal.loop-index-preserved
loop-index-preserved g c =
    let now = c.loop-index in
    let inside : c.loop-index.count < length c.loop-index.unmarked = omega (arith, now.invariant.few, now.invariant.long, now.auto, c.requires.few, c.loop-index-test.true) in
    record {
      few = rw c.from-count.ensures (omega (arith, now.invariant.few, bool_byte-one (not c.is_removed.result)));
      long = length-set now.unmarked now.count now.index ∙ now.invariant.long;
      listed = rw c.from-count.ensures
          (AreUnmarked-step c.args.self.now c.args.start now.index now.unmarked now.count c.is_removed.result inside c.is_removed.ensures now.invariant.listed);
    }
