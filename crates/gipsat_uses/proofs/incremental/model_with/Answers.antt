-- The formula is longer by the clauses of the facts.
use Rattle.gipsat_cnf.specs.Models.{assignment_in}
use Rattle.gipsat_uses.proofs.Incrementals.{facts-true, model-before, none-with}
use Rattle.gipsat_uses.proofs.Outcomes.{found-weaker, missing-weaker}
use Rattle.gipsat_uses.proofs.incremental.model_with.Goals as goal

pub returns-clause-model : goal.returns-clause-model
returns-clause-model g c =
    found-weaker c.find_model.result _ _
    (λ model sat. model-before (assignment_in model.items) _ _ c.args.facts.now c.in_ok-add_facts.ensures sat) c.find_model.ensures.model

pub returns-clause-facts : goal.returns-clause-facts
returns-clause-facts g c =
    found-weaker c.find_model.result _ _
    (λ model sat. facts-true (assignment_in model.items) _ _ c.args.facts.now c.in_ok-add_facts.ensures sat) c.find_model.ensures.model

pub returns-clause-none : goal.returns-clause-none
returns-clause-none g c =
    missing-weaker c.find_model.result (none-with _ _ c.args.facts.now c.in_ok-add_facts.ensures) c.find_model.ensures.none
