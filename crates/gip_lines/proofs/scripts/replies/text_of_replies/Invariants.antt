-- The text of the replies so far.
use Rattle.std.proofs.Common.{◌≡◌, take}
use Rattle.std.specs.List.{flat_map}
use Rattle.gip_lines.specs.Scripts.Steps.{reply_line}
use Rattle.gip_lines.proofs.scripts.replies.text_of_replies.Given as goal

abbrev pub invariant-loop-reply : goal.invariant-loop-reply
invariant-loop-reply g l = l.text.items ≡ flat_map reply_line (take l.reply-index l.replies)
