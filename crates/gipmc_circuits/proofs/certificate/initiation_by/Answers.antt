-- The formula says of an initial moment what it is.
use Rattle.std.proofs.lemmas.Result.{IfOk-weaker}
use Rattle.gipsat_cnf.proofs.Places.{IfNone-more}
use Rattle.gipmc_circuits.proofs.Certified.{initiated}
use Rattle.gipmc_circuits.proofs.certificate.initiation_by.Goals as goal

pub returns : goal.returns
returns g c =
    IfOk-weaker c.first_doubt.result _ _
    (λ doubt. IfNone-more doubt (initiated c.args.circuit.now c.args.invariant.now _ _ _ c.requires
    c.in_ok-add_initial.ensures.adds c.in_ok-add_moment.ensures.adds))
    c.first_doubt.ensures
