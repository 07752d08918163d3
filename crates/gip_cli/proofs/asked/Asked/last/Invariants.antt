-- The last option is found among the items that are left, or was found before.
use Rattle.std.proofs.Common.{◌≡◌, length}
use Rattle.std.specs.Option.{option_map}
use Rattle.gip_cli.specs.Asked.{asked_said, is_wanted, last, last_or}
use Rattle.gip_cli.specs.Items.{given_said, left_said}
use Rattle.gip_cli.proofs.asked.Asked.last.Given as goal

abbrev pub invariant-loop-item : goal.invariant-loop-item
invariant-loop-item l =
    last_or (option_map given_said l.found) (is_wanted l.wanted) (left_said l.items)
    ≡ last (is_wanted l.wanted) (asked_said l.self)

abbrev pub decreases-loop-item : goal.decreases-loop-item
decreases-loop-item l = length (left_said l.items)
