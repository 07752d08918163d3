-- The values so far, and those that the rest says, are all.
use Rattle.std.proofs.Common.{◌≡◌, length}
use Rattle.gipmc_aiger.specs.Prelude.{bare_frames_of, frames_view, said_lines}
use Rattle.gipmc_aiger.proofs.ClaimLoops.{with_front}
use Rattle.gipmc_aiger.proofs.claims.bare_frames.Given as goal

abbrev pub invariant-loop-line : goal.invariant-loop-line
invariant-loop-line l =
    with_front (frames_view l.frames.items) (bare_frames_of l.count (said_lines l.rest))
    ≡ bare_frames_of l.count (said_lines l.text)

abbrev pub decreases-loop-line : goal.decreases-loop-line
decreases-loop-line l = length l.rest
