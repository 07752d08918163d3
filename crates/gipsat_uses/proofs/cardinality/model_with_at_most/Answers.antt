-- What is found is a model of the formula as it was, and has the property; where nothing is found, there is none.
use Rattle.gipsat_cnf.specs.Models.{assignment_in}
use Rattle.gipsat_uses.proofs.Outcomes.{found-weaker, missing-weaker}
use Rattle.gipsat_uses.proofs.cardinality.model_with_at_most.Goals as goal

pub returns-clause-model : goal.returns-clause-model
returns-clause-model g c =
    found-weaker c.find_model.result _ _ (λ model sat. (c.in_ok-add_at_most.ensures.means.sound (assignment_in model.items) sat).0) c.find_model.ensures.model

pub returns-clause-few : goal.returns-clause-few
returns-clause-few g c =
    found-weaker c.find_model.result _ _ (λ model sat. (c.in_ok-add_at_most.ensures.means.sound (assignment_in model.items) sat).1) c.find_model.ensures.model

pub returns-clause-none : goal.returns-clause-none
returns-clause-none g c =
    missing-weaker c.find_model.result (λ none a sat few. let (b, same, is) = c.in_ok-add_at_most.ensures.means.complete c.requires a sat few in none (b, is))
    c.find_model.ensures.none
