use Rattle.gipsat_solver.proofs.solver.Solver.solve.Goals as goal

pub returns-clause-right : goal.returns-clause-right
returns-clause-right c =
    c.answer_of.ensures c.args.self.now c.solve_under.new.self c.args.limit c.in_ok-solve_under.ensures.right
