-- The digits so far are less where the literal is true.
use Rattle.gipmc_builder.specs.Build.{Keeps}
use Rattle.gipmc_builder.proofs.Differences.{LessSoFar}
use Rattle.gipmc_builder.proofs.build.Builder.less.Given as goal

abbrev pub invariant-loop-place : goal.invariant-loop-place
invariant-loop-place l = Keeps l.fn.self.circuit l.self.circuit × LessSoFar l.self.circuit l.left l.right l.place l.less
