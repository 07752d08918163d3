-- The formula says of a moment and a valuation that the claims hold there.
use Rattle.std.proofs.lemmas.Result.{IfOk-weaker}
use Rattle.gipmc_circuits.proofs.Certified.{IfSome-more}
use Rattle.gipmc_circuits.proofs.Together.{excluded_by}
use Rattle.gipmc_circuits.proofs.witnessed.is_excluded_by.Goals as goal

pub returns : goal.returns
returns g c =
    IfOk-weaker c.is_implied.result _ _
    (λ said. IfSome-more said _ _ (λ sure implied is. excluded_by c.args.sizes.certificate c.args.sizes.circuit
    c.args.circuit.now c.args.certificate.now c.args.bad c.in_ok-rows.rows.items _ _ _ c.requires.none
    c.requires.certificate c.in_ok-rows.ensures c.in_ok-add_pair.ensures
    (rw (c.deref.ensures.value) at c.in_ok-add_invariant.ensures) (implied is)))
    (rw (c.negated.ensures) at c.is_implied.ensures.right)
