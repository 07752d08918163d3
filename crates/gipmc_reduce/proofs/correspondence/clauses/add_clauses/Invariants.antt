-- The clauses so far are added.
use Rattle.std.proofs.Common.{take}
use Rattle.gipmc_reduce.specs.Correspondence.{HoldBoth}
use Rattle.gipmc_reduce.proofs.correspondence.clauses.add_clauses.Given as goal

abbrev pub invariant-loop-clause : goal.invariant-loop-clause
invariant-loop-clause l = HoldBoth l.clauses.items l.fn.clauses.items (take l.clause-index l.others)
