-- The certificate and the circuit are those of the files.
use Rattle.std.proofs.Common.{inr}
use Rattle.std.specs.Option.{option_map}
use Rattle.gipmc_task.specs.Certificates.{Certifies}
use Rattle.gipmc.specs.Asked.{WriteOne}
use Rattle.gipmc.proofs.Texts.{if_texts}
use Rattle.gipmc.proofs.certify.run.Goals as goal

pub returns-in-Ok-clause-verified : goal.returns-in-Ok-clause-verified
returns-in-Ok-clause-verified g c is =
    let options = c.args.options.now in
    let files = g.T.Texts.bytes c.args.texts.now in
    if_texts (λ bytes text. WriteOne bytes (λ p. Certifies p text options.subject))
    (files (option_map (λ n. n.now) options.file)) (files (option_map (λ n. n.now) c.args.name)) _ _
    c.in-Ok.ensures.circuit c.in-Ok.ensures.answer
    (rw (c.deref.ensures.value, c.deref-in-Ok.ensures.value) at (c.certify_in.ensures.verified is))

pub returns-in-Err-clause-ends : goal.returns-in-Err-clause-ends
returns-in-Err-clause-ends g c = inr c.refuse.ensures
