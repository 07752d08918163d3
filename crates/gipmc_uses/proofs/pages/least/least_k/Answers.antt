-- What is k-inductive is safe.
use Rattle.std.proofs.Common.{refl}
use Rattle.gipmc_uses.proofs.pages.least.least_k.Goals as goal

pub returns-in-Certified : goal.returns-in-Certified
returns-in-Certified c = (rw (c.in-Certified.is) at c.in_ok-certify_by_induction.ensures.safe) refl
