-- Equality of the values decides that of the lists.
use Rattle.std.specs.Cmp.{booleans_Decides}
use Rattle.std.proofs.lemmas.Slice.Eq.{slice_eq-Decides}
use Rattle.gipmc_reduce.proofs.lasso.are_same.Goals as goal

pub returns : goal.returns
returns c is = (slice_eq-Decides booleans_Decides c.args.left.now c.args.right.now c.eq.result c.eq.ensures).0 is
