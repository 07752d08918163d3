-- Of each literal so far there is a verdict, and the solver's formula stays.
use Rattle.std.proofs.Common.{◌≡◌, length}
use Rattle.gipmc_circuits.specs.Certificate.{AllowsHeld, AreExcluded}
use Rattle.gipmc_circuits.proofs.certificate.exclusions_by.Given as goal

abbrev pub invariant-loop-place : goal.invariant-loop-place
invariant-loop-place g l = record {
  count : length l.verdicts.items ≡ l.place;
  allows : AllowsHeld l.circuit l.invariant' (g.S.ClauseSink.formula l.solver);
  excluded : AreExcluded l.circuit l.invariant' l.bads l.verdicts.items;
}
