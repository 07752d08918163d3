-- A word that is an option.
use Rattle.std.proofs.Common.{◌∙◌, sym}
use Rattle.gip_cli.proofs.items.Items.word.Goals as goal

pub returns : goal.returns
returns c =
    rw (sym c.is_option.ensures ∙ c.if-not-is_option.false, sym c.eq.ensures ∙ c.if-eq.false) c.option.ensures
