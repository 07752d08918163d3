-- What was written, and what is left to write, are the lines.
use Rattle.std.proofs.Common.{◌≡◌, ◌++◌, drop}
use Rattle.gipmc_aiger.specs.CircuitTexts.{input_lines}
use Rattle.gipmc_aiger.proofs.writer.write_inputs.Given as goal

abbrev pub invariant-loop-input : goal.invariant-loop-input
invariant-loop-input l =
    l.fn.text.items ++ input_lines l.fn.inputs ≡ l.text.items ++ input_lines (drop l.input-index l.fn.inputs)
