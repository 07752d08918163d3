-- Both searches are about the circuit and its literals.
use Rattle.std.proofs.Common.{subst}
use Rattle.gipmc_task.specs.Left.{StandFor}
use Rattle.gipmc_task.proofs.query.Query.sweep.Goals as goal

pub begin-requires : goal.begin-requires
begin-requires g c =
    let now = c.args.self.now in
    let left = c.in-Some.left in
    subst (λ w. StandFor left.part.netlist.circuit left.part.netlist.circuit.bads.items w.circuit now.bads.now) now.same
    (subst (λ ls. StandFor left.part.netlist.circuit left.part.netlist.circuit.bads.items now.parted.whole.now.circuit ls)
    now.same_bads c.in-Some.ensures)
