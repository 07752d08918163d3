-- What is not doubted and excludes a literal shows that it is safe.
use Rattle.std.proofs.lemmas.Result.{IfOk-weaker}
use Rattle.gipmc_reduce.proofs.Judged.{AreSafeByClauses-excluded}
use Rattle.gipmc_reduce.proofs.certificate.verdicts_on.Goals as goal

pub returns-in-None-clause-safe : goal.returns-in-None-clause-safe
returns-in-None-clause-safe g c =
    IfOk-weaker c.exclusions.result _ _
    (λ verdicts excluded. AreSafeByClauses-excluded c.args.netlist.now.circuit c.args.invariant.now c.args.bads.now verdicts.items
    (rw (c.in-None.is) at c.in_ok-doubt.ensures.initiated) (rw (c.in-None.is) at c.in_ok-doubt.ensures.inductive) excluded)
    c.exclusions.ensures.excluded
