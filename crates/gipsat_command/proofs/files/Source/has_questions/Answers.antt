-- A block more is ahead.
use Rattle.std.proofs.KnownBytes.{Keeps-refl, Keeps-trans}
use Rattle.gipsat_command.proofs.files.Source.has_questions.Goals as goal

pub loop-init : goal.loop-init
loop-init g c = Keeps-refl _

pub loop-preserved : goal.loop-preserved
loop-preserved g c = Keeps-trans _ _ _ c.loop.invariant c.in_ok-read_ahead.ensures
