-- The first keys have the ranks that they are given.
use Rattle.std.proofs.Common.{◌≡◌, take}
use Rattle.gip_lines.specs.Scripts.Replies.{ranks_with}
use Rattle.gip_lines.proofs.scripts.replies.ranks_with.Given as goal

abbrev pub invariant-loop-key : goal.invariant-loop-key
invariant-loop-key l = l.ranks ≡ ranks_with (take l.key l.given) l.fn.ranks
