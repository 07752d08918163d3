-- Where the second clause is refused, the first is added.
use Rattle.std.proofs.Common.{◌∙◌}
use Rattle.std.proofs.lemmas.Result.{on_err_weaker}
use Rattle.gipsat_encodings.proofs.Leaving.{SpeaksOf-chosen}
use Rattle.gipsat_encodings.proofs.gates.add_chosen.Goals as goal

pub returns-clause-speaks : goal.returns-clause-speaks
returns-clause-speaks g c =
    on_err_weaker c.add_clause-2.result
    (λ same. SpeaksOf-chosen c.args.output c.args.condition c.args.chosen _ _
    (same ∙ (rw (c.negated.ensures, c.negated-2.ensures) at c.in_ok-add_clause.ensures.added)))
    c.add_clause-2.ensures.refused
