-- A clause more.
use Rattle.std.proofs.Common.{rules, ap, ◌∙◌}
use Rattle.gipsat_cnf.specs.Formulas.{satisfies}
use Rattle.gipsat_drat.specs.Numbers.{SaysOfNumbers, by_number}
use Rattle.gipsat_drat.proofs.NumberLemmas.{satisfies-more}
use Rattle.gipsat_drat.proofs.numbering.numbered_by.Goals as goal

pub loop-place-preserved : goal.loop-place-preserved
loop-place-preserved c =
    let numbers = c.args.numbering.now.numbers.items in
    let says : SaysOfNumbers numbers c.deref.result.now c.clause.result.now = search rules in λ a.
    ap (satisfies (by_number numbers a)) c.in_ok-push.ensures.added
    ∙ satisfies-more (by_number numbers a) a c.loop-place.made c.args.formula.now c.loop-place.place c.deref.result.now
    c.clause.result.now (c.loop-place.invariant a) c.clause.ensures (says a)
