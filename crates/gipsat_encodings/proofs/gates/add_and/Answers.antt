-- The negation of the output is an or of the negations.
use Rattle.std.proofs.lemmas.Result.{on_err_weaker, on_ok_weaker}
use Rattle.gipsat_cnf.proofs.Encodings.{Adds-same, AddsPart-of}
use Rattle.gipsat_encodings.proofs.GateMeanings.{IsOr-negated}
use Rattle.gipsat_encodings.proofs.gates.add_and.Goals as goal

pub returns-clause-means : goal.returns-clause-means
returns-clause-means g c =
    on_ok_weaker c.add_or.result (Adds-same _ _ _ _ (λ a. IsOr-negated a c.args.output c.args.literals.now))
    (rw (c.negated.ensures, c.deref.ensures.value, c.in_ok-negations.ensures) at c.add_or.ensures.means)

pub returns-clause-left : goal.returns-clause-left
returns-clause-left g c =
    on_err_weaker c.add_or.result (AddsPart-of _ _ _ _ (λ a. (IsOr-negated a c.args.output c.args.literals.now).1))
    (rw (c.negated.ensures, c.deref.ensures.value, c.in_ok-negations.ensures) at c.add_or.ensures.left)
