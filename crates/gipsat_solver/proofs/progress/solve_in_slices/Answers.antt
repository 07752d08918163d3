use Rattle.gipsat_solver.proofs.progress.solve_in_slices.Goals as goal

pub returns-in-Some-clause-right : goal.returns-in-Some-clause-right
returns-in-Some-clause-right g c =
    let right = rw c.in-Some.is at c.in_ok-answer.ensures.right in
    c.answer_of.ensures c.args.solver.now c.solve_under_in_slices.new.solver c.args.limit right
