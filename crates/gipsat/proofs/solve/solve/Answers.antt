-- What is answered of the formula with the assumptions.
use Rattle.std.proofs.Common.{◌≡◌}
use Rattle.gipsat_answers.specs.Answers.{problem_of, WritesAnswerWith}
use Rattle.gipsat_answers.specs.Assumed.{assuming}
use Rattle.gipsat_answers.specs.Names.{formula_of}
use Rattle.gipsat.proofs.Problems.{IfOk-more, of_made}
use Rattle.gipsat.proofs.solve.solve.Goals as goal

pub returns-clause-written : goal.returns-clause-written
returns-clause-written g c =
    let options = c.args.options.now in
    let made = problem_of c.in_ok-instance.instance.variables c.in_ok-instance.instance.clauses in
    IfOk-more c.answer.result
    (λ solved wrote. of_made options.rule (g.R.Read.remaining c.args.reader.now) made (assuming c.args.assumed.now)
    (λ problem. WritesAnswerWith options.witness problem options.conflicts solved (g.W.Write.contents c.args.writer.now) (g.W.Write.contents c.answer.new.writer))
    c.in_ok-instance.ensures.made wrote)
    c.answer.ensures.written

pub returns-clause-formula : goal.returns-clause-formula
returns-clause-formula g c =
    let made = problem_of c.in_ok-instance.instance.variables c.in_ok-instance.instance.clauses in
    IfOk-more c.answer.result
    (λ solved same. of_made c.args.options.now.rule (g.R.Read.remaining c.args.reader.now) made (assuming c.args.assumed.now)
    (λ problem. formula_of solved ≡ problem.clauses) c.in_ok-instance.ensures.made same)
    c.answer.ensures.formula
