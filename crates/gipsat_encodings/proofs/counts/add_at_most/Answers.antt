-- Bounds on both sides say the same.
use Rattle.std.proofs.lemmas.Result.{on_err_weaker, on_ok_weaker}
use Rattle.gipsat_encodings.proofs.Bounds.{between-at_most}
use Rattle.gipsat_encodings.proofs.Extending.{Constrains-same, ConstrainsPart-same}
use Rattle.gipsat_encodings.proofs.counts.add_at_most.Goals as goal

pub returns-clause-means : goal.returns-clause-means
returns-clause-means g c = on_ok_weaker c.add_between.result (Constrains-same _ _ _ _ _ _ (between-at_most c.args.k c.args.literals.now)) c.add_between.ensures.means

pub returns-clause-left : goal.returns-clause-left
returns-clause-left g c = on_err_weaker c.add_between.result (ConstrainsPart-same _ _ _ _ _ _ (between-at_most c.args.k c.args.literals.now)) c.add_between.ensures.left
