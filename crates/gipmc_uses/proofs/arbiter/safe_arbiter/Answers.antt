-- The literal is certified.
use Rattle.std.proofs.Common.{refl}
use Rattle.gipmc_uses.proofs.arbiter.safe_arbiter.Goals as goal

pub returns-in-Certified-clause-safe : goal.returns-in-Certified-clause-safe
returns-in-Certified-clause-safe g c = (rw c.in-Certified.is at c.in_ok-verdict.ensures.safe) refl
