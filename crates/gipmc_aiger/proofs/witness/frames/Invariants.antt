-- The values so far, and those that the rest says, are all.
use Rattle.std.proofs.Common.{◌≡◌, length}
use Rattle.gipmc_aiger.specs.Witnesses.{said_lines, frames_of, frames_view}
use Rattle.gipmc_aiger.proofs.ClaimLoops.{with_front}
use Rattle.gipmc_aiger.proofs.witness.frames.Given as goal

abbrev pub invariant-loop-line : goal.invariant-loop-line
invariant-loop-line l =
    with_front (frames_view l.frames.items) (frames_of l.count (said_lines l.rest))
    ≡ frames_of l.count (said_lines l.text)

abbrev pub decreases-loop-line : goal.decreases-loop-line
decreases-loop-line l = length l.rest
