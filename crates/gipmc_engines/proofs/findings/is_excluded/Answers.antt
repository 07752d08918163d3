-- What stands at the place of both lists.
use Rattle.std.proofs.Common.{◌≡◌, Some, refl, ap, rules, ◌∙◌}
use Rattle.std.proofs.lemmas.Option.{slice_get-get_or, slice_get_read}
use Rattle.gipmc_engines.proofs.findings.is_excluded.Goals as goal

pub returns-clause-asked : goal.returns-clause-asked
returns-clause-asked c sure =
    let same : c.index-asked-at.result ≡ c.args.bad = search rules in
    slice_get_read c.args.asked.now _ c.args.at _ refl c.if-at-asked.false c.index-asked-at.is ∙ ap Some same

pub returns-clause-certified : goal.returns-clause-certified
returns-clause-certified c sure =
    slice_get-get_or c.args.verdicts.now c.args.at _ c.if-at-verdicts.false ∙ ap Some (c.is_certified.ensures sure)
