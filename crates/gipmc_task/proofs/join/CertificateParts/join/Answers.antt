-- The text that was read back is the one that is answered.
use Rattle.gipmc_task.proofs.join.CertificateParts.join.Goals as goal

pub returns : goal.returns
returns g c = rw (c.deref-2.ensures.value) at (rw (c.in_default.is) at c.in_ok-doubt.ensures)
