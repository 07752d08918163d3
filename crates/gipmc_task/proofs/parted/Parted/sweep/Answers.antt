-- What is left stands for the part, and that for the circuit.
use Rattle.std.proofs.lemmas.Option.{IfSome_then}
use Rattle.gipmc_task.proofs.OnWhole.{StandFor-through}
use Rattle.gipmc_task.proofs.parted.Parted.sweep.Goals as goal

pub returns : goal.returns
returns g c =
    let now = c.args.self.now in
    IfSome_then c.of.result c.of.ensures
    (λ left is. StandFor-through left.part.netlist.circuit left.part.netlist.circuit.bads.items now.part.now.netlist.circuit
    now.part.now.netlist.circuit.bads.items now.whole.now.circuit now.bads.now is now.part_stands)
