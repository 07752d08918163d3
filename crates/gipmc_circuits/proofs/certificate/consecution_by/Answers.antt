-- The formula says of two moments what a transition between them is.
use Rattle.std.proofs.lemmas.Result.{IfOk-weaker}
use Rattle.gipsat_cnf.proofs.Places.{IfNone-more}
use Rattle.gipmc_circuits.proofs.Certified.{inductive}
use Rattle.gipmc_circuits.proofs.certificate.consecution_by.Goals as goal

pub returns : goal.returns
returns g c =
    let within = c.stride_of-stride.ensures.circuit in
    let rows = c.stride_of-stride.ensures.rows in
    IfOk-weaker c.first_doubt.result _ _
    (λ doubt. IfNone-more doubt (inductive c.stride_of-stride.result c.args.circuit.now c.args.invariant.now _ _ _ _ _
    c.requires within rows c.in_ok-add_moment.ensures.adds c.in_ok-add_invariant.ensures
    c.in_ok-add_transition.ensures.adds c.in_ok-add_moment-2.ensures.adds))
    c.first_doubt.ensures
