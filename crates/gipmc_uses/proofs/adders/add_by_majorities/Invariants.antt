-- Only gates are added.
use Rattle.gipmc_builder.specs.Build.{Keeps}
use Rattle.gipmc_uses.proofs.adders.add_by_majorities.Given as goal

abbrev pub invariant-loop-x : goal.invariant-loop-x
invariant-loop-x l = Keeps l.fn.build.circuit l.build.circuit
