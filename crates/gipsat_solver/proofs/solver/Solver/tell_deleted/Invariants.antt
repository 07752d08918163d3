use Rattle.std.specs.Prelude.{IsTrue}
use Rattle.gipsat_solver.proofs.solver.Solver.tell_deleted.Given as goal

abbrev pub invariant-loop-id : goal.invariant-loop-id
invariant-loop-id g l = IsTrue (g.P.Progress.wants_stop l.fn.progress) → IsTrue (g.P.Progress.wants_stop l.progress)
