-- What was written, and what is left to write, are the literals.
use Rattle.std.proofs.Common.{◌≡◌, ◌++◌, drop}
use Rattle.gipsat_answers.specs.Lrat.{literals_text}
use Rattle.gipsat_answers.proofs.proof.lrat.write_literals.Given as goal

abbrev pub invariant-loop-l : goal.invariant-loop-l
invariant-loop-l l = l.fn.bytes.items ++ literals_text l.fn.clause ≡ l.bytes.items ++ literals_text (drop l.l-index l.fn.clause)
