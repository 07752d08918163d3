-- Verdicts that all certify show each literal.
use Rattle.gipsat_cnf.proofs.Places.{IfNone-more}
use Rattle.gipmc_task.proofs.Shown.{AreShownSafe-certified}
use Rattle.gipmc_task.proofs.certificates.by_clauses.Goals as goal

pub returns : goal.returns
returns g c =
    let verdicts = c.in_ok-verdicts.verdicts.items in
    IfNone-more c.first_doubt.result
    (λ certified. AreShownSafe-certified c.args.netlist.now.circuit c.args.clauses.now c.args.bads.now verdicts
    c.in_ok-verdicts.ensures.count (rw (c.deref.ensures.value) at c.in_ok-verdicts.ensures.safe) certified)
    (rw (c.deref-2.ensures.value) at c.first_doubt.ensures)
