-- The name is found among the options that are left, or nowhere.
use Rattle.std.proofs.Common.{◌≡◌, map, length}
use Rattle.gip_cli.specs.Options.{entry_of, named}
use Rattle.gip_cli.proofs.options.named.Given as goal

abbrev pub invariant-loop-table : goal.invariant-loop-table
invariant-loop-table l =
    named (map entry_of l.table) l.word ≡ named (map entry_of l.fn.table) l.fn.word

abbrev pub decreases-loop-table : goal.decreases-loop-table
decreases-loop-table l = length l.table
