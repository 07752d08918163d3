-- What is held stays satisfiable.
use Rattle.gipsat_drat.specs.Held.{Keeps}
use Rattle.gipsat_drat.proofs.checker.Checker.enter_all.Given as goal

abbrev pub invariant-loop-id : goal.invariant-loop-id
invariant-loop-id l = Keeps l.initial.self l.self
