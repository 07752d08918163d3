use Rattle.std.proofs.Common.{◌≡◌}
use Rattle.gipsat_solver.proofs.turns.solve_one_conflict.Given as goal

abbrev pub invariant-loop : goal.invariant-loop
invariant-loop l = l.kernel ≡ l.fn.kernel
