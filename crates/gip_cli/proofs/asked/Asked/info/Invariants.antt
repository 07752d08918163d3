-- What the items that are left end with is what all end with.
use Rattle.std.proofs.Common.{◌≡◌, length}
use Rattle.gip_cli.specs.Asked.{asked_said, ended}
use Rattle.gip_cli.specs.Items.{left_said}
use Rattle.gip_cli.proofs.asked.Asked.info.Given as goal

abbrev pub invariant-loop-item : goal.invariant-loop-item
invariant-loop-item l = ended (left_said l.items) ≡ ended (asked_said l.self)

abbrev pub decreases-loop-item : goal.decreases-loop-item
decreases-loop-item l = length (left_said l.items)
