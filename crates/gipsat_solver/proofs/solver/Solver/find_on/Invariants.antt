-- A clause was learned each time.
use Rattle.std.proofs.Common.{◌≡◌}
use Rattle.std.specs.Prelude.{IsTrue}
use Rattle.gipsat_solver.specs.Answers.{HasMore}
use Rattle.gipsat_solver.proofs.solver.Solver.find_on.Given as goal

abbrev pub invariant-loop : goal.invariant-loop
invariant-loop g l = record {
  formula : l.self.formula ≡ l.fn.self.formula;
  given : l.self.given ≡ l.fn.self.given;
  more : HasMore l.counter l.fn.self l.self;
  stop : IsTrue (g.P.Progress.wants_stop l.fn.progress) → IsTrue (g.P.Progress.wants_stop l.progress);
}
