-- What stands behind the end is the same for the rest as for all of the text.
use Rattle.std.proofs.Common.{◌≡◌, ◌≤◌, length}
use Rattle.gipmc_aiger.specs.Prelude.{behind_end, said_lines}
use Rattle.gipmc_aiger.proofs.claims.behind.Given as goal

abbrev pub invariant-loop-line : goal.invariant-loop-line
invariant-loop-line l = record {
  lines : behind_end (said_lines l.rest) ≡ behind_end (said_lines l.text);
  room : length l.rest ≤ length l.text;
}

abbrev pub decreases-loop-line : goal.decreases-loop-line
decreases-loop-line l = length l.rest
