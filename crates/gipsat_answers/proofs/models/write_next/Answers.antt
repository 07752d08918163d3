-- A model was written and excluded.
use Rattle.std.proofs.Common.{IsTrue, subst, sym}
use Rattle.gipsat_cnf.specs.Prelude.{assignment_in, satisfies}
use Rattle.gipsat_answers.proofs.Enumerating.{WritesNext-model}
use Rattle.gipsat_answers.proofs.models.write_next.Goals as goal

pub returns-in-Some-Sat-clause-written : goal.returns-in-Some-Sat-clause-written
returns-in-Some-Sat-clause-written g c =
    let f = c.args.solver.now.formula in
    let right = rw c.in-Some-Sat.is at c.in_ok-model.ensures.right in
    let is_model = rw c.in-Some-Sat.field-0-is at right in
    let sat : IsTrue (satisfies (assignment_in c.deref.result.now) f) =
    subst (λ m. IsTrue (satisfies (assignment_in m) f)) (sym c.deref.ensures.value) is_model in
    WritesNext-model c.args.wanted.witness c.args.wanted.projection.now _ c.args.variables f _ _ c.write_model.result
    (assignment_in c.deref.result.now) _ _ c.solve_in_slices.ensures.formula sat c.write_model.ensures.verdict
    c.write_model.ensures.written c.write_model.ensures.excluded
