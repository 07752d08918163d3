-- A trace by which the circuit fails.
use Rattle.std.proofs.Common.{◌-◌, length}
use Rattle.gipmc_circuits.proofs.Traces.{FailsAfter-by}
use Rattle.gipmc_uses.proofs.confirm.confirms.Goals as goal

pub returns-in-Ok : goal.returns-in-Ok
returns-in-Ok c = λ yes.
    let (bad, at, fails) = c.in-Ok.ensures yes in (
      c.in_ok-netlist.netlist.circuit,
      c.in_ok-netlist.ensures.ok,
      c.in_ok-netlist.netlist.formed,
      c.in_ok-witness.witness.property,
      bad,
      at,
      length c.in_ok-witness.witness.trace.inputs.items - 1,
      FailsAfter-by c.in_ok-netlist.netlist.circuit bad c.in_ok-witness.witness.trace fails,
    )
