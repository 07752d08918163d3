-- The clauses say of a moment what it is, and that the invariant holds.
use Rattle.std.proofs.lemmas.Result.{IfOk-weaker}
use Rattle.gipmc_circuits.proofs.Certified.{allows_held}
use Rattle.gipmc_circuits.proofs.certificate.add_held.Goals as goal

pub returns : goal.returns
returns g c =
    IfOk-weaker c.add_invariant.result _ _
    (λ u. allows_held c.args.circuit.now c.args.invariant.now _ _ _ c.requires c.in_ok-add_moment.ensures.adds)
    c.add_invariant.ensures
