-- The claims so far, and those that the rest says, are all.
use Rattle.std.proofs.Common.{◌≡◌, false, length}
use Rattle.gipmc_aiger.specs.Prelude.{claims_from, claims_view, said_lines}
use Rattle.gipmc_aiger.proofs.ClaimLoops.{with_front}
use Rattle.gipmc_aiger.proofs.claims.answered.Given as goal

abbrev pub invariant-loop-line : goal.invariant-loop-line
invariant-loop-line l =
    with_front (claims_view l.claims.items) (claims_from l.letter l.other l.latches l.inputs false (said_lines l.rest))
    ≡ claims_from l.letter l.other l.latches l.inputs false (said_lines l.text)

abbrev pub decreases-loop-line : goal.decreases-loop-line
decreases-loop-line l = length l.rest
