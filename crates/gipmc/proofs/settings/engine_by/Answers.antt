-- An engine that is asked for searches.
use Rattle.gipmc.proofs.Plans.{other_engine}
use Rattle.gipmc.proofs.settings.engine_by.Goals as goal

pub returns-in_default : goal.returns-in_default
returns-in_default c = other_engine c.args.is_circuit c.args.engine c.in_default.not-All
