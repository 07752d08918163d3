-- The circuit and the literals stay.
use Rattle.std.proofs.Common.{◌≡◌}
use Rattle.gipmc_task.proofs.parted.Parted.leave_out.Given as goal

abbrev pub invariant-loop-at : goal.invariant-loop-at
invariant-loop-at g l = record {
  netlist : l.findings.netlist ≡ l.fn.findings.netlist;
  bads : l.findings.bads ≡ l.fn.findings.bads;
}
