-- What the text says of values is said of those of the model.
use Rattle.gipsat_answers.proofs.Renaming.{IfOk-more}
use Rattle.gipsat_answers.proofs.Replying.{reply-by-model}
use Rattle.gipsat_answers.proofs.questions.model_reply.Goals as goal

pub returns : goal.returns
returns c = IfOk-more c.named_text.result
    (λ text tells. reply-by-model c.args.names.now c.args.model.now c.in_ok-shown.shown c.args.witness text.items c.requires.rising
    c.in_ok-shown.ensures.names c.in_ok-shown.ensures.all tells)
    c.named_text.ensures
