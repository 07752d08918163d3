-- What was written, and what is left to write, are the lines.
use Rattle.std.proofs.Common.{◌≡◌, ◌++◌, drop}
use Rattle.gipmc_aiger.specs.Invariants.{clause_lines}
use Rattle.gipmc_aiger.proofs.invariant.write_clauses.Given as goal

abbrev pub invariant-loop-clause : goal.invariant-loop-clause
invariant-loop-clause l =
    l.fn.text.items ++ clause_lines l.fn.clauses
    ≡ l.text.items ++ clause_lines (drop l.clause-index l.fn.clauses)
