-- What is held stays satisfiable.
use Rattle.gipsat_drat.specs.Held.{Keeps}
use Rattle.gipsat.proofs.join.add_parts.Given as goal

abbrev pub invariant-loop-place : goal.invariant-loop-place
invariant-loop-place l = Keeps l.initial.joiner l.joiner
