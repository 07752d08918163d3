-- A search that has a limit may be stopped.
use Rattle.gipsat_answers.specs.Answers.{problem_of}
use Rattle.gipsat.specs.Searched.{has_limit}
use Rattle.gipsat.proofs.Problems.{WritesModels-stopping}
use Rattle.gipsat.proofs.models.write_in_time.Goals as goal

pub returns-in_ok-write_told-in-Some-clause-written : goal.returns-in_ok-write_told-in-Some-clause-written
returns-in_ok-write_told-in-Some-clause-written g c =
    let models = c.args.models in
    let told = c.in_ok-write_told-in-Some.field-0 in
    WritesModels-stopping models.witness models.projection.now models.limit told.enumerated.solver.learned _ (has_limit c.args.options.now)
    models.count (problem_of c.args.instance.variables c.args.instance.clauses) _ _ c.in-Some.ensures.given
    c.in_ok-write_told-in-Some.ensures.written
