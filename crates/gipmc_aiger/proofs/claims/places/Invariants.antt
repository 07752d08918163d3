-- The places so far, and those that the rest says, are all.
use Rattle.std.proofs.Common.{◌≡◌, length}
use Rattle.giputils_text.specs.Lines.{pieces}
use Rattle.gipmc_aiger.specs.Claims.{places_of}
use Rattle.gipmc_aiger.proofs.ClaimLoops.{with_front}
use Rattle.gipmc_aiger.proofs.claims.places.Given as goal

abbrev pub invariant-loop-places : goal.invariant-loop-places
invariant-loop-places l =
    with_front l.places.items (places_of (pieces l.letter l.rest)) ≡ places_of (pieces l.letter l.text)

abbrev pub decreases-loop-places : goal.decreases-loop-places
decreases-loop-places l = length l.rest
