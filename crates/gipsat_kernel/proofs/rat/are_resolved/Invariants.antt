use Rattle.gipsat_kernel.specs.Rat.{AreResolved}
use Rattle.gipsat_kernel.proofs.rat.are_resolved.Given as goal

abbrev pub invariant-loop-place : goal.invariant-loop-place
invariant-loop-place l = AreResolved l.held l.clauses l.opposite l.clause l.place
