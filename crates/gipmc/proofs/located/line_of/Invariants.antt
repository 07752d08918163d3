-- Each line shortens the rest.
use Rattle.std.proofs.Common.{length}
use Rattle.gipmc.proofs.located.line_of.Given as goal

abbrev pub decreases-loop-row : goal.decreases-loop-row
decreases-loop-row l = length l.rest
