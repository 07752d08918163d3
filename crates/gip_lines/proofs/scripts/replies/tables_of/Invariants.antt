-- A table for each line so far that gives ranks.
use Rattle.std.proofs.Common.{◌≡◌, ◌∷◌, take}
use Rattle.gip_lines.specs.Scripts.Steps.{tables_from}
use Rattle.gip_lines.specs.Scripts.Replies.{start_ranks}
use Rattle.gip_lines.proofs.Tables.{ranks_from}
use Rattle.gip_lines.proofs.scripts.replies.tables_of.Given as goal

abbrev pub invariant-loop-line : goal.invariant-loop-line
invariant-loop-line g l = record {
  tables : l.tables.items ≡ record { 0 = start_ranks } ∷ tables_from start_ranks (take l.line-index l.lines);
  ranks : l.ranks ≡ ranks_from start_ranks (take l.line-index l.lines);
}
