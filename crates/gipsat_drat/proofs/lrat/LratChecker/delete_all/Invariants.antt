-- What is held stays satisfiable.
use Rattle.gipsat_drat.specs.Held.{Keeps}
use Rattle.gipsat_drat.proofs.lrat.LratChecker.delete_all.Given as goal

abbrev pub invariant-loop-hint : goal.invariant-loop-hint
invariant-loop-hint l = Keeps l.initial.self l.self
