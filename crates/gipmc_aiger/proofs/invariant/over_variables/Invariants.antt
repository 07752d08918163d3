-- The clauses so far are over variables.
use Rattle.std.proofs.Common.{◌≡◌, map, take}
use Rattle.gipmc_aiger.specs.Invariants.{clauses_view, over_variables}
use Rattle.gipmc_aiger.proofs.invariant.over_variables.Given as goal

abbrev pub invariant-loop-clause : goal.invariant-loop-clause
invariant-loop-clause l =
    clauses_view l.moved.items
    ≡ map (map (over_variables (map (λ l. l.variable) l.latches))) (clauses_view (take l.clause-index l.clauses))
