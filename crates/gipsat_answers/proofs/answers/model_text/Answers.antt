-- Without names, the first variables have their values under their own numbers.
use Rattle.std.proofs.Common.{refl}
use Rattle.gipsat_cnf.specs.Models.{assignment_in}
use Rattle.gipsat_answers.proofs.Renaming.{IfOk-more}
use Rattle.gipsat_answers.proofs.answers.model_text.Goals as goal

pub returns : goal.returns
returns c =
    IfOk-more c.named_text.result (λ text tells. tells (assignment_in c.args.model.now) (λ v less. refl)) c.named_text.ensures
