-- There is a bad literal, and each of them is shown.
use Rattle.std.proofs.lemmas.Result.{IfOk-weaker}
use Rattle.gipsat_cnf.proofs.Places.{IfNone-more}
use Rattle.gipmc_task.proofs.certificates.certifies_all.Goals as goal

pub returns-in-Circuit : goal.returns-in-Circuit
returns-in-Circuit g c =
    rw (c.in-Circuit.is)
    (IfOk-weaker c.all_by_circuit.result _ _ (λ doubt. IfNone-more doubt (λ shown. (c.requires, shown))) c.all_by_circuit.ensures)
