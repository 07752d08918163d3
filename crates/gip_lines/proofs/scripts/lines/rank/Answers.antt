-- A pair and more words are no line of one rank.
use Rattle.std.proofs.Common.{sym, ◌∙◌, ap}
use Rattle.gip_lines.specs.Scripts.Lines.{rank_line}
use Rattle.gip_lines.proofs.Pairs.{rank_line-more}
use Rattle.gip_lines.proofs.scripts.lines.rank.Goals as goal

pub returns-in-Some : goal.returns-in-Some
returns-in-Some c =
    sym (ap rank_line (rw c.in-Some.is at c.in_ok-key.ensures.parts) ∙ rank_line-more c.in_ok-key.key c.in_ok-key.rank c.in-Some.field-0.now)
