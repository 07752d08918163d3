-- What was written, and what is left to write, are all.
use Rattle.std.proofs.Common.{◌≡◌, ◌++◌, drop}
use Rattle.gipmc_aiger.specs.CircuitTexts.{packed_latch_lines}
use Rattle.gipmc_aiger.proofs.writer.write_packed_latches.Given as goal

abbrev pub invariant-loop-latch : goal.invariant-loop-latch
invariant-loop-latch l =
    l.fn.text.items ++ packed_latch_lines l.fn.latches ≡ l.text.items ++ packed_latch_lines (drop l.latch-index l.fn.latches)
