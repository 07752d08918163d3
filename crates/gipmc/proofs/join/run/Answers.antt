-- The circuit is that of the file.
use Rattle.std.proofs.Common.{inr}
use Rattle.std.specs.Option.{option_map}
use Rattle.gipmc.specs.Asked.{IsShownSafe, WriteOne}
use Rattle.gipmc.proofs.Texts.{if_text}
use Rattle.gipmc.proofs.join.run.Goals as goal

pub returns-in-Ok-clause-verified : goal.returns-in-Ok-clause-verified
returns-in-Ok-clause-verified g c is =
    let options = c.args.options.now in
    if_text (λ bytes. WriteOne bytes IsShownSafe)
    (g.T.Texts.bytes c.args.texts.now (option_map (λ n. n.now) options.file)) c.in-Ok.bytes.items c.in-Ok.ensures
    (rw c.deref.ensures.value at (c.join_in.ensures.verified is))

pub returns-in-Err-clause-ends : goal.returns-in-Err-clause-ends
returns-in-Err-clause-ends g c = inr c.refuse.ensures
