-- What was written, and what is left to write, are the line.
use Rattle.std.proofs.Common.{◌≡◌, ◌++◌, drop}
use Rattle.gipsat_cnf.proofs.dimacs.write_clause.Given as goal
use Rattle.gipsat_cnf.specs.Dimacs.{clause_line}

abbrev pub invariant-loop-l : goal.invariant-loop-l
invariant-loop-l l = l.fn.text.items ++ clause_line l.fn.clause ≡ l.text.items ++ clause_line (drop l.l-index l.fn.clause)
