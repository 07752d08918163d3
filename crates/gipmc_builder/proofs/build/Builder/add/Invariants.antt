-- The digits so far are those of the sum, with what is left behind them.
use Rattle.gipmc_builder.specs.Build.{Keeps}
use Rattle.gipmc_builder.proofs.Numbers.{SumSoFar}
use Rattle.gipmc_builder.proofs.build.Builder.add.Given as goal

abbrev pub invariant-loop-place : goal.invariant-loop-place
invariant-loop-place l =
    Keeps l.fn.self.circuit l.self.circuit × SumSoFar l.self.circuit l.left l.right l.place l.sum.items l.carry
