use Rattle.gipsat_cnf.specs.Assumptions.{IsCore}
use Rattle.gipsat_plain.proofs.search.core_of.Given as goal

abbrev pub invariant-loop-place : goal.invariant-loop-place
invariant-loop-place l = IsCore l.formula l.assumptions l.core.items
