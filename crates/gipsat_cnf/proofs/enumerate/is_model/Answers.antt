use Rattle.std.proofs.Common.{sym, ◌∙◌}
use Rattle.std.proofs.lemmas.Bool.{false≢true}
use Rattle.gipsat_cnf.proofs.MakesTrue.{IsModelUnder-if, IsModelUnder-unless}
use Rattle.gipsat_cnf.proofs.enumerate.is_model.Goals as goal

pub returns-then-not-satisfied_by-clause-no : goal.returns-then-not-satisfied_by-clause-no
returns-then-not-satisfied_by-clause-no c model =
    false≢true (sym c.if-not-satisfied_by.true ∙ c.satisfied_by.ensures ∙ model.0)

pub returns-clause-yes : goal.returns-clause-yes
returns-clause-yes c =
    IsModelUnder-if c.args.formula.now c.args.assumptions.now c.args.values.now c.makes_true.result
    (sym c.satisfied_by.ensures ∙ c.if-not-satisfied_by.false) c.makes_true.ensures

pub returns-clause-no : goal.returns-clause-no
returns-clause-no c =
    IsModelUnder-unless c.args.formula.now c.args.assumptions.now c.args.values.now c.makes_true.result c.makes_true.ensures
