-- What was stripped off.
use Rattle.std.proofs.Common.{◌∙◌, sym}
use Rattle.gip_cli.proofs.Behind.{behind-stripped}
use Rattle.gip_cli.proofs.items.behind.Goals as goal

pub returns : goal.returns
returns c = behind-stripped c.args.short.now c.args.word.now c.strip_prefix.result
    (sym c.is_empty.ensures ∙ c.if-is_empty.false) c.strip_prefix.ensures.cases
