-- Nothing waits, and nothing is open.
use Rattle.std.proofs.Common.{◌≡◌, []}
use Rattle.gipmc_aiger.specs.Defects.{IsStack}
use Rattle.gipmc_aiger.proofs.order.visits.Given as goal

abbrev pub invariant-loop-root : goal.invariant-loop-root
invariant-loop-root l = record {
  none : l.waiting.items ≡ [];
  stack : IsStack l.gates l.visits.items [];
}
