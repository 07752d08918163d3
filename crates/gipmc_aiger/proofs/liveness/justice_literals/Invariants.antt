-- The properties so far, and those that the rest says, are all.
use Rattle.std.proofs.Common.{◌≡◌, drop, map}
use Rattle.gipmc_aiger.specs.Circuits.{justice_literals_at}
use Rattle.gipmc_aiger.proofs.RowLoops.{with_front}
use Rattle.gipmc_aiger.proofs.liveness.justice_literals.Given as goal

abbrev pub invariant-loop-property : goal.invariant-loop-property
invariant-loop-property l =
    with_front (map (λ property. property.items) l.justice.items)
    (justice_literals_at l.header (drop l.property-index l.properties) l.rest)
    ≡ justice_literals_at l.header l.properties l.bytes
