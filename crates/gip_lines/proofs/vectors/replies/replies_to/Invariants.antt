-- The text of the vectors so far.
use Rattle.std.proofs.Common.{◌≡◌, take}
use Rattle.gip_lines.specs.Vectors.Replies.{bits_text}
use Rattle.gip_lines.proofs.vectors.replies.replies_to.Given as goal

abbrev pub invariant-loop-line : goal.invariant-loop-line
invariant-loop-line g l = l.text.items ≡ bits_text (take l.line-index l.lines)
