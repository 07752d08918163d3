-- The words that are left say the rest of the line.
use Rattle.std.proofs.Common.{◌≡◌, ◌+◌, ◌<◌, ◌≤◌, [], length, IfNone}
use Rattle.std.specs.Option.{option_map_or}
use Rattle.gip_lines.specs.Scripts.Lines.{most_pairs, pairs_of, ranks_line}
use Rattle.gip_lines.proofs.Pairs.{line_after}
use Rattle.gip_lines.proofs.scripts.lines.ranks.Given as goal
use Rattle.giputils_text.specs.Lines.{space, pieces}

abbrev pub invariant-loop-rest : goal.invariant-loop-rest
invariant-loop-rest l = record {
  says : line_after l.pairs l.given (pairs_of (option_map_or (λ more. pieces space more.now) l.rest [])) ≡ ranks_line (pairs_of (pieces space l.words));
  few : l.pairs ≤ most_pairs;
  some : IfNone l.rest (0 < l.pairs);
}

abbrev pub decreases-loop-rest : goal.decreases-loop-rest
decreases-loop-rest l = option_map_or (λ more. length more.now + 1) l.rest 0
