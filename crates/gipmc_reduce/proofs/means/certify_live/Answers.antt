-- The longer circuit is safe.
use Rattle.gipmc_reduce.proofs.means.certify_live.Goals as goal

pub returns : goal.returns
returns g c certified = (rw c.in-Some.is at c.in_ok-made.ensures.live) (c.in_ok-verdict.ensures.safe certified)
