-- A model makes the literals true, and where there is a core, they cannot all be true.
use Rattle.std.proofs.Common.{◌-◌, true, subst, sym}
use Rattle.gipsat_cnf.specs.Assumptions.{IsModelUnder}
use Rattle.gipsat_cnf.proofs.MakesTrue.{unsatisfied-under}
use Rattle.gipsat_answers.proofs.Renaming.{unsatisfiable-under-named}
use Rattle.gipsat_answers.proofs.questions.reply.Goals as goal

pub returns-in-Some-Sat-clause-right : goal.returns-in-Some-Sat-clause-right
returns-in-Some-Sat-clause-right g c =
    let f = c.args.solver.now.formula in
    let right = rw c.in-Some-Sat.is at c.in_ok-model.ensures.right in
    let model = rw c.in-Some-Sat.field-0-is at right in
    c.in_ok-text-in-Some-Sat.ensures c.args.task.limit (c.solve_assuming.new.solver.learned - c.args.solver.now.learned) true f c.args.assumed.now c.requires.below c.requires.literals
    (subst (λ m. IsModelUnder f c.args.assumed.now m) (sym c.deref.ensures.value) model)

pub returns-in-Some-Unsat-clause-right : goal.returns-in-Some-Unsat-clause-right
returns-in-Some-Unsat-clause-right g c =
    let right = rw c.in-Some-Unsat.is at c.in_ok-model.ensures.right in
    let core = rw c.in-Some-Unsat.field-0-is at right in (
      unsatisfiable-under-named c.args.names.now c.args.solver.now.formula c.args.assumed.now (λ sat. unsatisfied-under _ _ _ core sat),
      c.in_ok-text-in-Some-Unsat.ensures,
    )
