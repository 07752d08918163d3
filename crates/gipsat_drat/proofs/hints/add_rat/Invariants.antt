-- What is held stays satisfiable.
use Rattle.gipsat_kernel.specs.Rat.{KeepsSatisfiable}
use Rattle.gipsat_drat.proofs.hints.add_rat.Given as goal

abbrev pub invariant-loop-place : goal.invariant-loop-place
invariant-loop-place l = KeepsSatisfiable l.initial.kernel l.kernel
