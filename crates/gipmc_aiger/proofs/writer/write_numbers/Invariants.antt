-- What was written, and what is left to write, are the numbers.
use Rattle.std.proofs.Common.{◌≡◌, ◌++◌, drop}
use Rattle.gipmc_aiger.specs.CircuitTexts.{numbers_text}
use Rattle.gipmc_aiger.proofs.writer.write_numbers.Given as goal

abbrev pub invariant-loop-number : goal.invariant-loop-number
invariant-loop-number l =
    l.fn.text.items ++ numbers_text l.fn.numbers ≡ l.text.items ++ numbers_text (drop l.number-index l.fn.numbers)
