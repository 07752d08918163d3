-- A `p` that is alone in its line is no header.
use Rattle.gipsat_dimacs.proofs.ParserLemmas.{problem_heading-alone}
use Rattle.gipsat_dimacs.proofs.stage.next_line.Goals as goal

pub returns-in-Problem-clause-err : goal.returns-in-Problem-clause-err
returns-in-Problem-clause-err c rule before begun lines =
    rw c.in-Problem.is (problem_heading-alone rule before begun lines)
