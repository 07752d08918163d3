-- The loop so far.
use Rattle.gipsat_cnf.specs.Models.{assignment_in}
use Rattle.gipmc_reduce.specs.Lassos.{from}
use Rattle.gipmc_reduce.proofs.Replayed.{LoopSoFar}
use Rattle.gipmc_reduce.proofs.lasso.loops.Given as goal

abbrev pub invariant-loop-place : goal.invariant-loop-place
invariant-loop-place l =
    LoopSoFar l.circuit l.literals (from l.trace l.start) (assignment_in l.first) l.place (assignment_in l.values.items) l.left.items
