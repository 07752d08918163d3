-- What is there so far, and what is left.
use Rattle.gipmc_reduce.proofs.Stages.{StagesSoFar}
use Rattle.gipmc_reduce.proofs.k_liveness.add_stages.Given as goal

abbrev pub invariant-loop-place : goal.invariant-loop-place
invariant-loop-place l = StagesSoFar l.fn.circuit l.circuit l.n l.stages l.place l.passed
