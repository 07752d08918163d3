-- Nothing satisfies the formula under its names.
use Rattle.std.proofs.Common.{subst}
use Rattle.gipsat_solver.specs.Answers.{IsRight}
use Rattle.gipsat_answers.proofs.Renaming.{unsatisfiable-named}
use Rattle.gipsat_answers.proofs.names.answer_under.Goals as goal

pub returns-in-Unsat : goal.returns-in-Unsat
returns-in-Unsat c = λ old new limit are right.
    unsatisfiable-named c.args.names.now old.formula (subst (λ answer. IsRight old new limit answer) c.in-Unsat.is right)
