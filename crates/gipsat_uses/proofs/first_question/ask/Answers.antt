-- The formula is that of both clauses.
use Rattle.gipsat_cnf.specs.Models.{assignment_in}
use Rattle.gipsat_uses.proofs.FirstQuestion.{second-is_true}
use Rattle.gipsat_uses.proofs.first_question.ask.Goals as goal

pub returns-in-Sat : goal.returns-in-Sat
returns-in-Sat c =
    let second = c.in_ok-add_clause-2.ensures.formula in
    let first = c.in_ok-add_clause.ensures.formula in
    let none = c.requires.empty in
    let right = rw (c.in-Sat.is, second, first, none) at c.in_ok-model.ensures.right in
    let (sat, all) = rw (c.negated.ensures, c.negated-2.ensures, c.new-a.ensures, c.new-b.ensures, c.new-c.ensures) at right in
    record { b_is_true = second-is_true (assignment_in c.in-Sat.model.items) sat all }
