-- The model as it is without names, or the values of the names.
use Rattle.std.proofs.Common.{◌≡◌, ◌≢◌, ◌<◌, ℕ, [], length, subst, arith}
use Rattle.std.proofs.lemmas.Grind.{common_steps}
use Rattle.gipsat_cnf.specs.Models.{assignment_in}
use Rattle.gipsat_answers.specs.Names.{name_in}
use Rattle.gipsat_answers.proofs.Renaming.{IfOk-more, IsModel-named, IsModel-unnamed}
use Rattle.gipsat_answers.proofs.names.model_under.Goals as goal

pub returns-then-is_empty : goal.returns-then-is_empty
returns-then-is_empty c =
    let none : c.args.names.now ≡ [] = grind (arith, common_steps) in
    λ f are sat. IsModel-unnamed c.args.names.now f c.args.model.items none sat

pub returns : goal.returns
returns c =
    let names = c.args.names.now in
    let some : names ≢ [] = grind (arith, common_steps) in
    IfOk-more c.values_under.result
    (λ values alike f are sat. IsModel-named names f c.args.model.items values.items are some
    (subst (λ m. (v : ℕ) → v < length names → assignment_in values.items (name_in names v) ≡ assignment_in m v) c.deref.ensures.value alike) sat)
    c.values_under.ensures
