-- The values are those of the moment that is reached.
use Rattle.gipsat_cnf.specs.Models.{assignment_in}
use Rattle.gipmc_reduce.specs.Lassos.{IsReachedBy}
use Rattle.gipmc_reduce.proofs.lasso.loop_start.Given as goal

abbrev pub invariant-loop-place : goal.invariant-loop-place
invariant-loop-place l = IsReachedBy l.circuit l.trace l.place (assignment_in l.values.items)
