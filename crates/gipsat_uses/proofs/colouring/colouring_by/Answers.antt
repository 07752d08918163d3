-- The clauses say of a model that it is a colouring.
use Rattle.std.proofs.Common.{IsTrue, refl, subst, sym}
use Rattle.gipsat_cnf.specs.Prelude.{assignment_in, satisfies}
use Rattle.gipsat_uses.proofs.Outcomes.{found-weaker, missing-weaker}
use Rattle.gipsat_uses.proofs.colouring.colouring_by.Goals as goal

pub returns-clause-colouring : goal.returns-clause-colouring
returns-clause-colouring g c =
    found-weaker c.find_model.result _ _ (λ model sat. ((c.in_ok-add_graph.ensures (assignment_in model.items)).0 sat).1) c.find_model.ensures.model

pub returns-clause-none : goal.returns-clause-none
returns-clause-none g c =
    missing-weaker c.find_model.result
    (λ none a is. none (a, (c.in_ok-add_graph.ensures a).1 (subst (λ f. IsTrue (satisfies a f)) (sym c.requires.empty) refl, is)))
    c.find_model.ensures.none
