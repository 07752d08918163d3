-- What is certified of the circuit is true of its steps.
use Rattle.std.proofs.Common.{refl}
use Rattle.gipmc_builder.proofs.Machines.{IsSafe-machine}
use Rattle.gipmc_uses.specs.Lights.{are_both_green, north_first, turned}
use Rattle.gipmc_uses.proofs.lights.never_both_green.Goals as goal

pub returns-in-Certified : goal.returns-in-Certified
returns-in-Certified g c = λ never.
    (IsSafe-machine c.in_ok-netlist.netlist.circuit c.in_ok-netlist.bad turned north_first are_both_green c.in_ok-netlist.ensures
    c.in_ok-netlist.netlist.formed).0
    ((rw c.in-Certified.is at c.in_ok-verdict.ensures.safe) refl)
