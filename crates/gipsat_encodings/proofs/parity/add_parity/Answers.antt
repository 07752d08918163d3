-- The exclusive or of all is as it is to be.
use Rattle.std.proofs.lemmas.Result.{on_err_weaker, on_ok_weaker}
use Rattle.gipsat_cnf.proofs.Places.{OnErr-always}
use Rattle.gipsat_encodings.specs.Extending.{Anything}
use Rattle.gipsat_encodings.specs.Gates.{HasParity}
use Rattle.gipsat_encodings.proofs.Extending.{Extends-weaker}
use Rattle.gipsat_encodings.proofs.Leaving.{ConstrainsPart-from, Extends-stays}
use Rattle.gipsat_encodings.proofs.Parities.{Constrains-parity}
use Rattle.gipsat_encodings.proofs.parity.add_parity.Goals as goal

pub returns-clause-means : goal.returns-clause-means
returns-clause-means g c =
    on_ok_weaker c.add_value.result
    (Constrains-parity _ _ _ c.args.literals.now c.args.odd c.in_ok-sum.sum _ _ _ c.above.ensures.least c.above.ensures.below c.in_ok-sum.ensures.below c.in_ok-sum.ensures.sum)
    c.add_value.ensures.means

pub returns-in_err-sum-clause-left : goal.returns-in_err-sum-clause-left
returns-in_err-sum-clause-left g c =
    OnErr-always _ (ConstrainsPart-from _ _ _ (HasParity c.args.literals.now c.args.odd) _ _ c.above.ensures.least c.in_err-sum.ensures.left)

pub returns-then-is_empty-clause-left : goal.returns-then-is_empty-clause-left
returns-then-is_empty-clause-left g c =
    on_err_weaker c.add_fact.result (λ same. rw same (Extends-stays _ _ (HasParity c.args.literals.now c.args.odd) _ c.above.ensures.least)) c.add_fact.ensures.refused

pub returns-clause-left : goal.returns-clause-left
returns-clause-left g c =
    on_err_weaker c.add_value.result
    (λ same. rw same (ConstrainsPart-from _ _ _ (HasParity c.args.literals.now c.args.odd) _ _ c.above.ensures.least
    (Extends-weaker _ _ Anything Anything _ Anything _ _ (λ a any. any) (λ a means. tt) c.in_ok-sum.ensures.sum)))
    c.add_value.ensures.refused
