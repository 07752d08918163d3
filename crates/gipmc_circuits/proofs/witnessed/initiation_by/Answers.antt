-- The formula says of a moment and a valuation where both begin.
use Rattle.std.proofs.lemmas.Result.{IfOk-weaker}
use Rattle.gipsat_cnf.proofs.Places.{IfNone-more}
use Rattle.gipmc_circuits.proofs.Together.{initiated_by}
use Rattle.gipmc_circuits.proofs.witnessed.initiation_by.Goals as goal

pub returns : goal.returns
returns g c =
    IfOk-weaker c.first_doubt.result _ _
    (λ doubt. IfNone-more doubt (initiated_by c.args.sizes.certificate c.args.sizes.circuit c.args.circuit.now
    c.args.certificate.now c.in_ok-rows.rows.items _ _ _ _ c.requires.none c.requires.certificate c.in_ok-rows.ensures
    c.in_ok-add_pair.ensures c.in_ok-add_initial.ensures.adds
    (rw (c.deref.ensures.value) at c.in_ok-add_links.ensures)))
    (rw (c.deref-2.ensures.value) at c.first_doubt.ensures)
