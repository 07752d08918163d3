-- Of each literal so far there is a verdict.
use Rattle.std.proofs.Common.{◌≡◌, length}
use Rattle.gipmc_reduce.specs.Witnessed.{AreSafeBy}
use Rattle.gipmc_reduce.proofs.witnessed.certify_each.Given as goal

abbrev pub invariant-loop-place : goal.invariant-loop-place
invariant-loop-place g l = record {
  count : length l.verdicts.items ≡ l.place;
  safe : AreSafeBy l.netlist.circuit l.certificate l.bads l.verdicts.items;
}
