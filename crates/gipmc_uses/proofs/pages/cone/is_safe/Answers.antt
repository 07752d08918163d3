-- A literal that is certified never becomes true.
use Rattle.std.proofs.Common.{refl}
use Rattle.gipmc_uses.proofs.pages.cone.is_safe.Goals as goal

pub returns : goal.returns
returns c certain =
    let first = c.is_first_certified.ensures certain in
    let certified = rw (c.deref-2.ensures.value) at first in
    (c.in_ok-verdicts.ensures.safe 0 c.args.bad refl certified).safe
