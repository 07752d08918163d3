-- Both are said of what is certified.
use Rattle.std.proofs.Common.{true, IsTrue, refl}
use Rattle.gipmc_circuits.specs.Circuit.{IsSafe}
use Rattle.gipmc_unroll.specs.Induction.{IsKInductive}
use Rattle.gipmc_engines.proofs.findings.is_inductive.Goals as goal

pub returns-in-Certified : goal.returns-in-Certified
returns-in-Certified g c = λ sure.
    let inductive : IsTrue true → IsKInductive c.args.netlist.now.circuit c.args.bad c.args.k =
    rw (c.in-Certified.is) at c.in_ok-certify_by_induction.ensures.inductive in
    let safe : IsTrue true → IsSafe c.args.netlist.now.circuit c.args.bad =
    rw (c.in-Certified.is) at c.in_ok-certify_by_induction.ensures.safe in record {
      inductive = inductive refl;
      safe = safe refl;
    }
