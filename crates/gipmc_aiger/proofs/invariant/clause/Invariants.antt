-- The literals so far, and what the other words write, are the clause.
use Rattle.std.proofs.Common.{◌≡◌, [], suc, length}
use Rattle.std.specs.Option.{option_map_or}
use Rattle.giputils_text.specs.Lines.{pieces, space}
use Rattle.gipmc_aiger.specs.Invariants.{clause_in}
use Rattle.gipmc_aiger.proofs.Fronts.{with_items}
use Rattle.gipmc_aiger.proofs.invariant.clause.Given as goal

abbrev pub invariant-loop-rest : goal.invariant-loop-rest
invariant-loop-rest l =
    with_items l.clause.items (clause_in l.latches (option_map_or (λ words. pieces space words.now) l.rest []))
    ≡ clause_in l.latches (pieces space l.line)

abbrev pub decreases-loop-rest : goal.decreases-loop-rest
decreases-loop-rest l = option_map_or (λ words. suc (length words.now)) l.rest 0
