-- The clauses so far are about the variables so far.
use Rattle.gipmc_reduce.proofs.Equalities.{ImpliesBelow}
use Rattle.gipmc_reduce.proofs.correspondence.merges.Merges.clauses.Given as goal

abbrev pub invariant-loop-place : goal.invariant-loop-place
invariant-loop-place l = ImpliesBelow l.place l.all.items l.self.literals.items
