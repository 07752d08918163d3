-- What is certified is safe, and so false all along.
use Rattle.std.proofs.Common.{refl}
use Rattle.gipmc_circuits.proofs.Traces.{IsSafe-along}
use Rattle.gipmc_uses.proofs.throughout.is_false_throughout.Goals as goal

pub returns-in-Certified : goal.returns-in-Certified
returns-in-Certified g c = λ holds n t is.
    IsSafe-along c.args.netlist.now.circuit c.args.l n t ((rw c.in-Certified.is at c.in_ok-certify.ensures.safe) refl) is
