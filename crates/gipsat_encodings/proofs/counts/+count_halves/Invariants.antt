use Rattle.std.proofs.Common.{length}
use Rattle.gipsat_encodings.proofs.counts.+count_halves.Given as goal

abbrev pub decreases-count_halves : goal.decreases-count_halves
decreases-count_halves g l = length l.literals.now
