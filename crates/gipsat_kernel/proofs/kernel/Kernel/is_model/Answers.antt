use Rattle.std.proofs.Common.{sym, ◌∙◌}
use Rattle.std.proofs.lemmas.Bool.{false≢true}
use Rattle.gipsat_cnf.proofs.MakesTrue.{IsModelUnder-if, IsModelUnder-unless}
use Rattle.gipsat_kernel.proofs.kernel.Kernel.is_model.Goals as goal

pub returns-then-not-satisfied_by-clause-none : goal.returns-then-not-satisfied_by-clause-none
returns-then-not-satisfied_by-clause-none c model =
    false≢true (sym c.if-not-satisfied_by.true ∙ c.satisfied_by.ensures ∙ model.0)

pub returns-clause-model : goal.returns-clause-model
returns-clause-model c =
    IsModelUnder-if c.args.self.now c.args.assumptions.now c.args.values.now c.makes_true.result
    (sym c.satisfied_by.ensures ∙ c.if-not-satisfied_by.false) c.makes_true.ensures

pub returns-clause-none : goal.returns-clause-none
returns-clause-none c =
    IsModelUnder-unless c.args.self.now c.args.assumptions.now c.args.values.now c.makes_true.result c.makes_true.ensures
