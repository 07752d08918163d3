-- What the circuit that stands still excludes is excluded in this one.
use Rattle.std.proofs.lemmas.Result.{IfOk-weaker}
use Rattle.gipmc_reduce.proofs.Stilled.{IsCertifiedBy-still}
use Rattle.gipmc_reduce.proofs.witnessed.exclusion.Goals as goal

pub returns : goal.returns
returns g c =
    IfOk-weaker c.said_by.result _ _
    (λ verdict says sure. IsCertifiedBy-still c.args.netlist.now.variables c.args.netlist.now.circuit c.args.still.now.circuit
    c.args.certificate.now c.args.bad c.args.netlist.now.enough c.requires.still c.requires.below c.requires.claims (says sure))
    c.said_by.ensures
