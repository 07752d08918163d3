-- The digits so far are those of the number, with the rest behind them.
use Rattle.gipmc_builder.proofs.Numbers.{DigitsSoFar}
use Rattle.gipmc_builder.proofs.build.digits.Given as goal

abbrev pub invariant-loop-rest : goal.invariant-loop-rest
invariant-loop-rest l = DigitsSoFar l.n l.digits.items l.rest

abbrev pub decreases-loop-rest : goal.decreases-loop-rest
decreases-loop-rest l = l.rest
