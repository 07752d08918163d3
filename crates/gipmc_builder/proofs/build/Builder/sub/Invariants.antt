-- The digits so far are those of the difference, with what they borrow.
use Rattle.gipmc_builder.specs.Build.{Keeps}
use Rattle.gipmc_builder.proofs.Differences.{DifferenceSoFar}
use Rattle.gipmc_builder.proofs.build.Builder.sub.Given as goal

abbrev pub invariant-loop-place : goal.invariant-loop-place
invariant-loop-place l =
    Keeps l.fn.self.circuit l.self.circuit
    × DifferenceSoFar l.self.circuit l.left l.right l.place l.difference.items l.borrow
