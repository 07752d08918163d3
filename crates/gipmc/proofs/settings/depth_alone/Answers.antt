-- Others than bounded model checking alone have no bound.
use Rattle.gipmc.proofs.Plans.{no_bound}
use Rattle.gipmc.proofs.settings.depth_alone.Goals as goal

pub returns-in_default : goal.returns-in_default
returns-in_default c = no_bound c.args.engine c.in_default.not-Bounded
