-- Each digit leaves a smaller number.
use Rattle.gipmc_traces.proofs.waves.write_code.Given as goal

abbrev pub decreases-loop-place : goal.decreases-loop-place
decreases-loop-place l = l.place
