-- What was written, and what is left to write, are the lines.
use Rattle.std.proofs.Common.{◌≡◌, ◌++◌, drop}
use Rattle.gipmc_aiger.specs.CircuitTexts.{and_lines}
use Rattle.gipmc_aiger.proofs.writer.write_ands.Given as goal

abbrev pub invariant-loop-gate : goal.invariant-loop-gate
invariant-loop-gate l =
    l.fn.text.items ++ and_lines l.fn.gates ≡ l.text.items ++ and_lines (drop l.gate-index l.fn.gates)
