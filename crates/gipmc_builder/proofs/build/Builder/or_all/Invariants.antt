-- One of the literals so far is true where the literal is.
use Rattle.gipmc_builder.specs.Build.{Keeps}
use Rattle.gipmc_builder.proofs.Gates.{AnySoFar}
use Rattle.gipmc_builder.proofs.build.Builder.or_all.Given as goal

abbrev pub invariant-loop-place : goal.invariant-loop-place
invariant-loop-place l = Keeps l.fn.self.circuit l.self.circuit × AnySoFar l.self.circuit l.literals l.place l.any
