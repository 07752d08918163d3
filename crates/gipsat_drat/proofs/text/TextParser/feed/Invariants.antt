-- What is held stays satisfiable.
use Rattle.gipsat_drat.specs.Held.{Keeps}
use Rattle.gipsat_drat.proofs.text.TextParser.feed.Given as goal

abbrev pub invariant-loop-byte : goal.invariant-loop-byte
invariant-loop-byte l = Keeps l.initial.checker l.checker
