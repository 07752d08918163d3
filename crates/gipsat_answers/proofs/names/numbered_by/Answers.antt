-- A clause more, and the end.
use Rattle.std.proofs.Common.{rules, ap, ◌≡◌, ◌∙◌, length}
use Rattle.gipsat_answers.specs.Names.{named, named_clause}
use Rattle.gipsat_answers.proofs.Renaming.{named-more, AreAllBelow-more}
use Rattle.gipsat_answers.proofs.names.numbered_by.Goals as goal

pub loop-place-preserved : goal.loop-place-preserved
loop-place-preserved c =
    let names = c.args.names.now in
    let is : named_clause names c.deref.result.now ≡ c.clause.result.now = search rules in
    ap (named names) c.in_ok-push.ensures.added
    ∙ named-more names c.loop-place.made c.args.clauses.now c.loop-place.place c.deref.result.now c.clause.result.now
    c.loop-place.invariant c.clause.ensures is

pub returns-clause-below : goal.returns-clause-below
returns-clause-below c =
    AreAllBelow-more c.variables.result (length c.args.names.now) c.loop-place.made c.if-variables-names.false c.variables.ensures.below
