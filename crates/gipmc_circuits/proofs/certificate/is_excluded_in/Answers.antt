-- What the formula implies is so where the invariant holds.
use Rattle.std.proofs.lemmas.Result.{IfOk-weaker}
use Rattle.gipmc_circuits.proofs.Certified.{excluded, IfSome-more}
use Rattle.gipmc_circuits.proofs.certificate.is_excluded_in.Goals as goal

pub returns-clause-right : goal.returns-clause-right
returns-clause-right g c =
    IfOk-weaker c.is_implied.result _ _
    (λ said. IfSome-more said _ _ (λ sure implied is. excluded c.args.circuit.now c.args.invariant.now c.args.bad _
    c.requires (implied is)))
    (rw (c.negated.ensures) at c.is_implied.ensures.right)
