-- One more call of `draw` takes the generator one state further.
use Rattle.std.proofs.Common.{arith, refl}
use Rattle.std.proofs.lemmas.Fn.{FoldsTo-push}
use Rattle.giputils_vec.proofs.gvec.Gvec.new_rand.Goals as goal

pub loop-preserved : goal.loop-preserved
loop-preserved g c = record {
  len = omega arith;
  room = omega arith;
  drawn = rw c.push_reserved.ensures.items (FoldsTo-push _ _ _ _ _ _ c.loop.invariant.drawn (record { lent = _; shows = refl; left = _; answers = c.draw.ensures; leaves = refl }));
}
