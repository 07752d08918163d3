-- What was written so far, and what is left, lead to what is wanted, and no more was learned than the limit.
use Rattle.std.proofs.Common.{◌-◌, ◌≤◌}
use Rattle.gipsat_answers.specs.Answers.{problem_of}
use Rattle.gipsat_answers.proofs.Enumerating.{Leads}
use Rattle.gipsat_answers.proofs.models.write_by.Given as goal

abbrev pub invariant-loop-found : goal.invariant-loop-found
invariant-loop-found g l = record {
  leads : Leads l.wanted.witness l.wanted.projection.now l.wanted.limit l.wanted.count
      (problem_of l.variables l.initial.solver.formula) (g.W.Write.contents l.initial.writer)
      (l.wanted.count - l.found) l.solver.formula (g.W.Write.contents l.writer);
  most : l.solver.learned ≤ l.wanted.limit;
}
