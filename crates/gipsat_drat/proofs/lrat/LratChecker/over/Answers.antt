-- The formula of the variables is held, which something satisfies where something satisfies that of their numbers.
use Rattle.std.proofs.Common.{◌≡◌, ◌∙◌, ap, refl, subst, sym}
use Rattle.gipsat_drat.specs.Held.{IsConsistent, held_of}
use Rattle.gipsat_drat.proofs.lrat.LratChecker.over.Goals as goal

pub returns : goal.returns
returns c = λ is.
    let held : c.name_given.new.self ≡ held_of c.in_ok-numbering.field-0.formula =
    c.name_given.ensures ∙ c.of-checker.ensures ∙ ap held_of c.in_ok-kernel.ensures
    in
    subst IsConsistent (sym held) (c.in_ok-numbering.ensures is.0, refl)
