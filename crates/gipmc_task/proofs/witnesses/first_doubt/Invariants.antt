-- All are right if those that are left are.
use Rattle.std.proofs.Common.{drop}
use Rattle.gipmc_aiger.specs.Lists.{Every}
use Rattle.gipmc_task.specs.Witnesses.{IsRight}
use Rattle.gipmc_task.proofs.witnesses.first_doubt.Given as goal

abbrev pub invariant-loop-place : goal.invariant-loop-place
invariant-loop-place l =
    Every (λ x. IsRight l.problem l.kind l.asked (x.properties.items, x.trace)) (drop l.place l.claims)
    → Every (λ x. IsRight l.problem l.kind l.asked (x.properties.items, x.trace)) l.claims
