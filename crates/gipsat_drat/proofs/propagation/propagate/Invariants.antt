-- What is held stays satisfiable.
use Rattle.gipsat_kernel.specs.Rat.{KeepsSatisfiable}
use Rattle.gipsat_drat.proofs.propagation.propagate.Given as goal

abbrev pub invariant-loop : goal.invariant-loop
invariant-loop l = KeepsSatisfiable l.initial.kernel l.kernel
