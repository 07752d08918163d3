-- The clause of all literals, and one for each of them.
use Rattle.std.proofs.Common.{◌≡◌, take, arith, ◌∙◌}
use Rattle.std.proofs.lemmas.Grind.{common_steps}
use Rattle.gipsat_cnf.proofs.Places.{OnErr-always}
use Rattle.gipsat_encodings.proofs.GateMeanings.{Adds-or, AddsPart-or}
use Rattle.gipsat_encodings.proofs.gates.add_or.Goals as goal

pub returns-in_err-add_clause-2-clause-left : goal.returns-in_err-add_clause-2-clause-left
returns-in_err-add_clause-2-clause-left g c =
    OnErr-always _
    (AddsPart-or c.args.output c.args.literals.now c.loop-l.l-index _ _ (c.in_err-add_clause-2.ensures.refused ∙ c.loop-l.invariant))

pub returns-clause-means : goal.returns-clause-means
returns-clause-means g c =
    let all : take c.loop-l.l-index c.args.literals.now ≡ c.args.literals.now = grind (arith, common_steps) in
    Adds-or c.args.output c.args.literals.now _ _ (rw all at c.loop-l.invariant)
