-- The formula says of two moments and valuations what a transition of both between them is.
use Rattle.std.proofs.lemmas.Result.{IfOk-weaker}
use Rattle.gipsat_cnf.proofs.Places.{IfNone-more}
use Rattle.gipmc_circuits.proofs.Together.{inductive_by}
use Rattle.gipmc_circuits.proofs.witnessed.consecution_by.Goals as goal

pub returns : goal.returns
returns g c =
    IfOk-weaker c.first_doubt.result _ _
    (λ doubt. IfNone-more doubt (inductive_by c.args.sizes.certificate c.args.sizes.circuit
    c.in_ok-next_there.next_there c.in_ok-next_here.next_here c.args.circuit.now
    c.args.certificate.now c.args.rows.now _ _ _ _ _ _ c.in_ok-next_there.ensures c.in_ok-next_here.ensures
    c.requires.none c.requires.circuit c.requires.certificate c.requires.claims
    c.in_ok-add_pair.ensures c.in_ok-add_invariant.ensures
    c.in_ok-add_transition.ensures.adds (rw (c.deref.ensures.value) at c.in_ok-add_links.ensures)
    c.in_ok-add_pair-2.ensures))
    c.first_doubt.ensures
