-- What was written, and what is left to write, are the lines.
use Rattle.std.proofs.Common.{◌≡◌, ◌++◌, drop}
use Rattle.gipmc_aiger.specs.CircuitTexts.{literal_lines}
use Rattle.gipmc_aiger.proofs.writer.write_literals.Given as goal

abbrev pub invariant-loop-l : goal.invariant-loop-l
invariant-loop-l l =
    l.fn.text.items ++ literal_lines l.fn.literals ≡ l.text.items ++ literal_lines (drop l.l-index l.fn.literals)
