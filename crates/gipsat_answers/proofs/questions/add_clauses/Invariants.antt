-- The clauses before, and those so far.
use Rattle.std.proofs.Common.{◌≡◌, ◌++◌, take}
use Rattle.gipsat_answers.proofs.questions.add_clauses.Given as goal

abbrev pub invariant-loop-place : goal.invariant-loop-place
invariant-loop-place l = record {
  formula : l.solver.formula ≡ l.initial.solver.formula ++ take l.place l.clauses;
  learned : l.solver.learned ≡ l.initial.solver.learned;
}
