-- First at least one, and then at most one.
use Rattle.std.proofs.lemmas.Result.{on_err_weaker, on_ok_weaker}
use Rattle.gipsat_cnf.proofs.Encodings.{Adds-both, AddsPart-both}
use Rattle.gipsat_encodings.proofs.pairs.add_exactly_one.Goals as goal

pub returns-clause-means : goal.returns-clause-means
returns-clause-means g c = on_ok_weaker c.add_at_most_one.result (Adds-both _ _ _ _ _ c.in_ok-add_at_least_one.ensures.means) c.add_at_most_one.ensures.means

pub returns-clause-left : goal.returns-clause-left
returns-clause-left g c = on_err_weaker c.add_at_most_one.result (AddsPart-both _ _ _ _ _ c.in_ok-add_at_least_one.ensures.means) c.add_at_most_one.ensures.left
