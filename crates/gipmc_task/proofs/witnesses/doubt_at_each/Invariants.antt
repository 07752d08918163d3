-- The circuit fails at all places if it does at those that are left.
use Rattle.std.proofs.Common.{drop}
use Rattle.gipmc_aiger.specs.Lists.{Every}
use Rattle.gipmc_task.specs.Witnesses.{FailsAt}
use Rattle.gipmc_task.proofs.witnesses.doubt_at_each.Given as goal

abbrev pub invariant-loop-k : goal.invariant-loop-k
invariant-loop-k l =
    Every (FailsAt l.problem l.kind l.trace) (drop l.k l.places) → Every (FailsAt l.problem l.kind l.trace) l.places
