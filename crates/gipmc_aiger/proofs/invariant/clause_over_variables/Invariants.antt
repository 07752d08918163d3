-- The literals so far are over variables.
use Rattle.std.proofs.Common.{◌≡◌, map, take}
use Rattle.gipmc_aiger.specs.Invariants.{over_variables}
use Rattle.gipmc_aiger.proofs.invariant.clause_over_variables.Given as goal

abbrev pub invariant-loop-l : goal.invariant-loop-l
invariant-loop-l l =
    l.moved.items ≡ map (over_variables (map (λ l. l.variable) l.latches)) (take l.l-index l.clause)
