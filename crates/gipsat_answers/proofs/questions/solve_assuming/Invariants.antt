-- The formula stays, and what was learned and what is left are the limit together.
use Rattle.std.proofs.Common.{◌≡◌, ◌+◌, ◌≤◌}
use Rattle.gipsat_answers.proofs.questions.solve_assuming.Given as goal

abbrev pub invariant-loop : goal.invariant-loop
invariant-loop g l = record {
  formula : l.solver.formula ≡ l.initial.solver.formula;
  before : l.before ≡ l.initial.solver.learned;
  least : l.initial.solver.learned ≤ l.solver.learned;
  sum : l.solver.learned + l.left ≡ l.initial.solver.learned + l.limit;
}
