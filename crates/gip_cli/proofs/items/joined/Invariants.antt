-- The short name is found among the options that are left, or nowhere.
use Rattle.std.proofs.Common.{◌≡◌, map, length}
use Rattle.gip_cli.specs.Items.{long_said, short_said}
use Rattle.gip_cli.specs.Options.{entry_of}
use Rattle.gip_cli.proofs.items.joined.Given as goal

abbrev pub invariant-loop-left : goal.invariant-loop-left
invariant-loop-left l =
    short_said (map entry_of l.left) l.word (long_said (map entry_of l.fn.table) l.fn.word)
    ≡ short_said (map entry_of l.fn.table) l.fn.word (long_said (map entry_of l.fn.table) l.fn.word)

abbrev pub decreases-loop-left : goal.decreases-loop-left
decreases-loop-left l = length l.left
