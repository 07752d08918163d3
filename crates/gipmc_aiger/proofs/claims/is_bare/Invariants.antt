-- There is such a line in the rest if there is one in the text.
use Rattle.std.proofs.Common.{◌≡◌, length}
use Rattle.std.specs.List.{list_any}
use Rattle.gipmc_aiger.specs.Prelude.{is_last, said_lines}
use Rattle.gipmc_aiger.proofs.claims.is_bare.Given as goal

abbrev pub invariant-loop-line : goal.invariant-loop-line
invariant-loop-line l = list_any is_last (said_lines l.rest) ≡ list_any is_last (said_lines l.text)

abbrev pub decreases-loop-line : goal.decreases-loop-line
decreases-loop-line l = length l.rest
