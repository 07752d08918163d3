-- What is k-inductive in the part is so in the circuit.
use Rattle.std.proofs.lemmas.Result.{IfOk-weaker}
use Rattle.gipsat_cnf.proofs.Places.{IfNone-more}
use Rattle.gipmc_task.proofs.ByInduction.{IsSafeByInduction-whole}
use Rattle.gipmc_task.proofs.induction.doubt_by_part.Goals as goal

pub returns : goal.returns
returns g c =
    IfOk-weaker c.doubt_on-2.result _ _
    (λ doubt. IfNone-more doubt
    (IsSafeByInduction-whole c.args.part.now.names.names.items c.args.part.now.netlist.circuit c.args.whole.now.circuit
    c.in-Some.own c.args.bad c.args.k c.requires (rw (c.in-Some.is) at c.literal.ensures)))
    c.doubt_on-2.ensures
