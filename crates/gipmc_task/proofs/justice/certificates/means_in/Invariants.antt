-- Each line shortens the rest.
use Rattle.std.proofs.Common.{length}
use Rattle.gipmc_task.proofs.justice.certificates.means_in.Given as goal

abbrev pub decreases-loop-line : goal.decreases-loop-line
decreases-loop-line l = length l.rest
