-- A word is one too many.
use Rattle.std.proofs.Common.{sym}
use Rattle.gip_lines.proofs.Pairs.{without_words-more}
use Rattle.gip_lines.proofs.scripts.lines.without_words.Goals as goal

pub returns-in-Some : goal.returns-in-Some
returns-in-Some c = rw c.in-Some.is (sym (without_words-more c.args.line c.in-Some.field-0.now))
