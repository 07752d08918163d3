-- The clauses of the first of the others are a part.
use Rattle.std.proofs.Common.{◌∙◌}
use Rattle.gipsat_cnf.specs.Encodings.{one_false}
use Rattle.gipsat_cnf.proofs.Encodings.{AddsPart-mapped}
use Rattle.gipsat_cnf.proofs.Places.{OnErr-always}
use Rattle.gipsat_encodings.proofs.pairs.add_pairs.Goals as goal

pub returns-in_err-add_clause-clause-left : goal.returns-in_err-add_clause-clause-left
returns-in_err-add_clause-clause-left g c =
    OnErr-always _
    (AddsPart-mapped (one_false c.args.literal) c.args.others.now c.loop-other.other-index _ _
    (c.in_err-add_clause.ensures.refused ∙ c.loop-other.invariant))
