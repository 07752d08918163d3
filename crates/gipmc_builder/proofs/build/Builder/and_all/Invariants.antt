-- The literals so far are all true where the literal is.
use Rattle.gipmc_builder.specs.Build.{Keeps}
use Rattle.gipmc_builder.proofs.Gates.{AllSoFar}
use Rattle.gipmc_builder.proofs.build.Builder.and_all.Given as goal

abbrev pub invariant-loop-place : goal.invariant-loop-place
invariant-loop-place l = Keeps l.fn.self.circuit l.self.circuit × AllSoFar l.self.circuit l.literals l.place l.all
