-- A step for each line so far, and the table that the last of them left.
use Rattle.std.proofs.Common.{◌≡◌, ◌≤◌, take, drop}
use Rattle.gip_lines.specs.Scripts.Steps.{steps_from}
use Rattle.gip_lines.specs.Scripts.Replies.{start_ranks}
use Rattle.gip_lines.proofs.Tables.{ranks_from, IsAtTable}
use Rattle.gip_lines.proofs.scripts.replies.steps_of.Given as goal

abbrev pub invariant-loop-line : goal.invariant-loop-line
invariant-loop-line g l = record {
  steps : l.steps.items ≡ steps_from start_ranks (take l.line-index l.lines);
  table : IsAtTable l.tables l.table (ranks_from start_ranks (take l.line-index l.lines)) (drop l.line-index l.lines);
  few : l.table ≤ l.line-index;
}
