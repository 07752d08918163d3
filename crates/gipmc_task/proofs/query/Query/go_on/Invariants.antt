-- The circuit and the literals stay.
use Rattle.std.proofs.Common.{◌≡◌}
use Rattle.gipmc_task.proofs.query.Query.go_on.Given as goal

abbrev pub invariant-loop : goal.invariant-loop
invariant-loop g l = record {
  whole : l.self.whole ≡ l.fn.self.whole;
  bads : l.self.bads ≡ l.fn.self.bads;
}
