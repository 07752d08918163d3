-- Verdicts on the part are verdicts on the whole circuit.
use Rattle.std.proofs.lemmas.Result.{IfOk-weaker}
use Rattle.gipmc_reduce.proofs.Judged.{AreSafeByClauses-part}
use Rattle.gipmc_reduce.proofs.certificate.certify_by_part.Goals as goal

pub returns-clause-safe : goal.returns-clause-safe
returns-clause-safe g c =
    IfOk-weaker c.verdicts_on-2.result _ _
    (λ verdicts safe. AreSafeByClauses-part c.args.part.now.names.names.items c.args.part.now.netlist.circuit c.args.whole.now.circuit
    c.in-Some.own.items c.args.bads.now c.in-Some-2.clauses.items c.args.invariant.now verdicts.items c.requires
    (rw (c.in-Some.is) at c.in_ok-own.ensures) (rw (c.in-Some-2.is) at c.in_ok-clauses.ensures) safe)
    (rw (c.deref.ensures.value, c.deref-2.ensures.value) at c.verdicts_on-2.ensures.safe)
