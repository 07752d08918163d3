-- The literals of a clause more.
use Rattle.std.proofs.Common.{◌∙◌}
use Rattle.gipsat_answers.proofs.Assuming.{literals_of-more}
use Rattle.gipsat_answers.proofs.assumed.literals_of.Goals as goal

pub loop-place-preserved : goal.loop-place-preserved
loop-place-preserved c =
    c.in_ok-extend_from_slice.ensures.items
    ∙ literals_of-more c.args.clauses.now c.loop-place.place c.clause.result.now c.loop-place.literals.items
    c.loop-place.invariant c.clause.ensures
