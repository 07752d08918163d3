-- The one verdict is about the one literal.
use Rattle.std.proofs.Common.{refl}
use Rattle.gipmc_engines.proofs.liveness.shown.is_safe_by.Goals as goal

pub returns : goal.returns
returns g c = λ sure. c.in_ok-verdicts.ensures.safe 0 c.args.bad refl (rw (c.deref.ensures.value) at (c.is_first_certified.ensures sure))
