-- The digits so far are those of the number that is chosen.
use Rattle.gipmc_builder.specs.Build.{Keeps}
use Rattle.gipmc_builder.proofs.Numbers.{ChoiceSoFar}
use Rattle.gipmc_builder.proofs.build.Builder.choose.Given as goal

abbrev pub invariant-loop-place : goal.invariant-loop-place
invariant-loop-place l =
    Keeps l.fn.self.circuit l.self.circuit × ChoiceSoFar l.self.circuit l.selector l.left l.right l.place l.chosen.items
