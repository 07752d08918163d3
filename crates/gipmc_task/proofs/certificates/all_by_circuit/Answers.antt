-- Verdicts that all certify show each literal.
use Rattle.gipsat_cnf.proofs.Places.{IfNone-more}
use Rattle.gipmc_task.proofs.Shown.{AreShownSafe-circuit}
use Rattle.gipmc_task.proofs.certificates.all_by_circuit.Goals as goal

pub returns : goal.returns
returns g c =
    let bads = c.args.netlist.now.circuit.bads.items in
    let verdicts = c.in-Some.verdicts.items in
    IfNone-more c.first_doubt.result
    (λ certified. AreShownSafe-circuit c.args.netlist.now.circuit c.args.other.now bads verdicts
    (rw (c.in-Some.is, c.deref.ensures.value) at c.in_ok-said.ensures.count)
    (rw (c.in-Some.is, c.deref.ensures.value) at c.in_ok-said.ensures.safe) certified)
    (rw (c.deref-2.ensures.value) at c.first_doubt.ensures)
