-- What was written, and what is left to write, are the hints.
use Rattle.std.proofs.Common.{◌≡◌, ◌++◌, drop}
use Rattle.gipsat_answers.specs.Lrat.{hints_bytes}
use Rattle.gipsat_answers.proofs.proof.lrat.write_hints.Given as goal

abbrev pub invariant-loop-hint : goal.invariant-loop-hint
invariant-loop-hint l = l.fn.bytes.items ++ hints_bytes l.format l.fn.hints ≡ l.bytes.items ++ hints_bytes l.format (drop l.hint-index l.fn.hints)
