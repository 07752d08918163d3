-- What stands behind the first letter names the properties.
use Rattle.std.proofs.Common.{◌≡◌, ◌∷◌, rules, true}
use Rattle.std.specs.Prelude.{◌==◌, length}
use Rattle.giputils_text.specs.Lines.{pieces}
use Rattle.gipmc_aiger.proofs.ClaimLoops.{properties-behind}
use Rattle.gipmc_aiger.proofs.claims.properties_of.Goals as goal

pub returns-in-Some : goal.returns-in-Some
returns-in-Some c =
    let parts : pieces c.args.letter c.args.line.now ≡ c.split_once.result.0.now ∷ pieces c.args.letter c.in-Some.words.now = search rules in
    let empty : (length c.split_once.result.0.now == 0) ≡ true = search rules in
    rw (properties-behind c.args.letter c.args.line.now c.split_once.result.0.now c.in-Some.words.now parts empty) c.places.ensures
