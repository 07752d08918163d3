-- The outcome is right for the formula that was read, and an error of the proof is none of the formula.
use Rattle.gipsat_dimacs.proofs.Problems.{of_problem}
use Rattle.gipsat_drat.specs.Outcomes.{IsRight}
use Rattle.gipsat_drat.proofs.OutcomeLemmas.{but_at_writing, not_formula}
use Rattle.gipsat_drat.proofs.task.lrat_from_drat.Goals as goal

pub returns-clause-right : goal.returns-clause-right
returns-clause-right g c =
    let instance = c.in_ok-instance.instance in
    of_problem (g.F.Read.remaining c.args.formula.now) (record { variables = instance.variables; clauses = instance.clauses })
    (λ problem. IsRight problem.clauses c.in_ok-outcome.outcome) c.in_ok-instance.ensures.ok c.in_ok-outcome.ensures.right

pub returns-in_err-outcome-clause-line : goal.returns-in_err-outcome-clause-line
returns-in_err-outcome-clause-line g c = λ line reason is.
    absurd (not_formula c.from_residual-in_err-outcome.result c.in_err-outcome.field-0.0 _ c.from_residual-in_err-outcome.ensures is)

pub returns-in_err-outcome-clause-failed : goal.returns-in_err-outcome-clause-failed
returns-in_err-outcome-clause-failed g c =
    but_at_writing c.from_residual-in_err-outcome.result c.in_err-outcome.field-0.0 c.from_residual-in_err-outcome.ensures
    c.in_err-outcome.ensures.failed
