-- A second word is one too many.
use Rattle.std.proofs.Common.{sym, ap, ◌∙◌}
use Rattle.gip_lines.specs.Scripts.Lines.{only_key}
use Rattle.gip_lines.proofs.Pairs.{only_key-more}
use Rattle.gip_lines.proofs.scripts.lines.sole_key.Goals as goal

pub returns-in-Some : goal.returns-in-Some
returns-in-Some c =
    let parts = rw c.in-Some.is at c.split_once.ensures.parts in
    rw c.in_ok-words.was (sym (ap only_key parts ∙ only_key-more c.split_once.result.0.now c.in-Some.field-0.now))
