use Rattle.std.proofs.Common.{[], refl, subst}
use Rattle.gipsat_solver.specs.Answers.{IsRightUnder}
use Rattle.gipsat_solver.proofs.AnswerLemmas.{unsatisfied-core}
use Rattle.gipsat_solver.proofs.answers.answer_of.Goals as goal

pub returns-in-Unsat : goal.returns-in-Unsat
returns-in-Unsat c old new limit right =
    unsatisfied-core old.formula [] c.in-Unsat.field-0.items refl (subst (IsRightUnder [] old new limit) c.in-Unsat.is right)
