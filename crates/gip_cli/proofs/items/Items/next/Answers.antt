-- The word that is taken says what it says, before the others.
use Rattle.gip_cli.proofs.Taken.{said-taken}
use Rattle.gip_cli.proofs.items.Items.next.Goals as goal

pub returns-in-Some : goal.returns-in-Some
returns-in-Some c = said-taken c.args.self.now c.take.new.self c.word.new.self c.in-Some.word.now c.word.result
    c.if-self.false c.in-Some.ensures.words c.in-Some.ensures.table c.word.ensures
