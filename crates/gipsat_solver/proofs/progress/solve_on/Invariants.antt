-- As many clauses were learned as the limit lost.
use Rattle.std.proofs.Common.{◌≡◌, ◌≤◌, ◌+◌}
use Rattle.gipsat_solver.proofs.progress.solve_on.Given as goal

abbrev pub invariant-loop : goal.invariant-loop
invariant-loop g l = record {
  formula : l.solver.formula ≡ l.fn.solver.formula;
  given : l.solver.given ≡ l.fn.solver.given;
  learned : l.solver.learned + l.left ≡ l.fn.solver.learned + l.limit;
  fewer : l.left ≤ l.limit;
}
