-- The circuit and the literals stay.
use Rattle.std.proofs.Common.{◌≡◌}
use Rattle.gipmc_task.proofs.known.go_on_to.Given as goal

abbrev pub invariant-loop : goal.invariant-loop
invariant-loop g l = record {
  whole : l.query.whole ≡ l.fn.query.whole;
  bads : l.query.bads ≡ l.fn.query.bads;
}
