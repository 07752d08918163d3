-- What is held stays satisfiable.
use Rattle.gipsat_drat.specs.Held.{Keeps}
use Rattle.gipsat_drat.proofs.join.feed_steps.Given as goal

abbrev pub invariant-loop : goal.invariant-loop
invariant-loop l = Keeps l.initial.checker l.checker
