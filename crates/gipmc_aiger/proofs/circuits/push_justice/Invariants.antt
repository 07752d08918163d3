-- The literals so far, and those of the properties that are left, are all.
use Rattle.std.proofs.Common.{◌≡◌, ◌++◌, drop, map}
use Rattle.gipmc_aiger.specs.LiveCircuits.{flattened}
use Rattle.gipmc_aiger.proofs.circuits.push_justice.Given as goal

abbrev pub invariant-loop-property : goal.invariant-loop-property
invariant-loop-property l =
    l.fn.literals.items ++ flattened (map (λ property. property.items) l.fn.justice)
    ≡ l.literals.items ++ flattened (map (λ property. property.items) (drop l.property-index l.fn.justice))
