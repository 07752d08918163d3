-- The clauses so far, and those that the rest writes, are all.
use Rattle.std.proofs.Common.{◌≡◌, length}
use Rattle.gipmc_aiger.specs.Invariants.{clauses_in, clauses_view, uncommented_lines}
use Rattle.gipmc_aiger.proofs.Fronts.{with_items}
use Rattle.gipmc_aiger.proofs.invariant.clauses.Given as goal

abbrev pub invariant-loop-left : goal.invariant-loop-left
invariant-loop-left l =
    with_items (clauses_view l.clauses.items) (clauses_in l.latches (uncommented_lines l.rest))
    ≡ clauses_in l.latches (uncommented_lines l.text)

abbrev pub decreases-loop-left : goal.decreases-loop-left
decreases-loop-left l = length l.rest
