-- What was written, and what is left to write, are the clause.
use Rattle.std.proofs.Common.{◌≡◌, ◌++◌, drop}
use Rattle.gipsat_answers.specs.Steps.{clause_bytes}
use Rattle.gipsat_answers.proofs.proof.steps.write_bytes.Given as goal

abbrev pub invariant-loop-l : goal.invariant-loop-l
invariant-loop-l l = l.fn.bytes.items ++ clause_bytes l.fn.clause ≡ l.bytes.items ++ clause_bytes (drop l.l-index l.fn.clause)
