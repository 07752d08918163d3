-- What is certified is k-inductive, and safe.
use Rattle.std.proofs.Common.{refl}
use Rattle.gipmc_task.proofs.induction.doubt_on.Goals as goal

pub returns-in-Certified : goal.returns-in-Certified
returns-in-Certified g c = record {
  inductive = (rw (c.in-Certified.is) at c.in_ok-verdict.ensures.inductive) refl;
  safe = (rw (c.in-Certified.is) at c.in_ok-verdict.ensures.safe) refl;
}
