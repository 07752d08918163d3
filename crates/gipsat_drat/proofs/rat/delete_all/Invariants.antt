-- What is held stays satisfiable.
use Rattle.gipsat_kernel.specs.Rat.{KeepsSatisfiable}
use Rattle.gipsat_drat.proofs.rat.delete_all.Given as goal

abbrev pub invariant-loop-id : goal.invariant-loop-id
invariant-loop-id l = KeepsSatisfiable l.initial.kernel l.kernel
