-- The file is found among the items that are left, or nowhere.
use Rattle.std.proofs.Common.{◌≡◌, length}
use Rattle.gip_cli.specs.Asked.{asked_said, file_at}
use Rattle.gip_cli.specs.Items.{left_said}
use Rattle.gip_cli.proofs.asked.Asked.file.Given as goal

abbrev pub invariant-loop-item : goal.invariant-loop-item
invariant-loop-item l = file_at l.left (left_said l.items) ≡ file_at l.place (asked_said l.self)

abbrev pub decreases-loop-item : goal.decreases-loop-item
decreases-loop-item l = length (left_said l.items)
