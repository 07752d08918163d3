-- The digits so far are the same where the literal is true.
use Rattle.gipmc_builder.specs.Build.{Keeps}
use Rattle.gipmc_builder.proofs.Numbers.{SameSoFar}
use Rattle.gipmc_builder.proofs.build.Builder.are_same.Given as goal

abbrev pub invariant-loop-place : goal.invariant-loop-place
invariant-loop-place l =
    Keeps l.fn.self.circuit l.self.circuit × SameSoFar l.self.circuit l.left l.right l.place l.same
