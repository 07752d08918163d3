-- The circuit, the literals and the invariant stay.
use Rattle.std.proofs.Common.{◌≡◌}
use Rattle.gipmc_engines.proofs.findings.Findings.take_down.Given as goal

abbrev pub invariant-loop-place : goal.invariant-loop-place
invariant-loop-place l = record {
  netlist : l.self.netlist ≡ l.fn.self.netlist;
  bads : l.self.bads ≡ l.fn.self.bads;
  invariant : l.self.invariant ≡ l.fn.self.invariant;
}
