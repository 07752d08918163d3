-- What a search in the text of the file answers.
use Rattle.std.specs.Option.{option_map}
use Rattle.gipmc_task.specs.declared.outcome.Outcome.TheVariants.{Fails, Safe}
use Rattle.gipmc.specs.Asked.{IsAnswered}
use Rattle.gipmc.proofs.Texts.{if_text}
use Rattle.gipmc.proofs.search.run.Goals as goal

pub returns-in-Ok-clause-safe : goal.returns-in-Ok-clause-safe
returns-in-Ok-clause-safe g c is =
    let options = c.args.options.now in
    if_text (λ bytes. IsAnswered bytes options.subject Safe)
    (g.T.Texts.bytes c.args.texts.now (option_map (λ n. n.now) options.file)) c.in-Ok.bytes.items c.in-Ok.ensures
    (rw c.deref.ensures.value at (c.search_in.ensures.safe is))

pub returns-in-Ok-clause-fails : goal.returns-in-Ok-clause-fails
returns-in-Ok-clause-fails g c is =
    let options = c.args.options.now in
    if_text (λ bytes. IsAnswered bytes options.subject Fails)
    (g.T.Texts.bytes c.args.texts.now (option_map (λ n. n.now) options.file)) c.in-Ok.bytes.items c.in-Ok.ensures
    (rw c.deref.ensures.value at (c.search_in.ensures.fails is))
