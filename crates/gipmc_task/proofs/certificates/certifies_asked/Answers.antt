-- All places, or the one that is asked for.
use Rattle.gipmc_task.proofs.certificates.certifies_asked.Goals as goal

pub returns-in-None : goal.returns-in-None
returns-in-None g c = rw (c.in-None.is) c.certifies_all.ensures

pub returns-in-Some : goal.returns-in-Some
returns-in-Some g c = rw (c.in-Some.is) c.certifies_at.ensures
