-- What was written, and what is left to write, are all.
use Rattle.std.proofs.Common.{◌≡◌, ◌++◌, drop}
use Rattle.gipmc_aiger.specs.CircuitTexts.{packed_ands}
use Rattle.gipmc_aiger.proofs.writer.write_packed_ands.Given as goal

abbrev pub invariant-loop-gate : goal.invariant-loop-gate
invariant-loop-gate l =
    l.fn.text.items ++ packed_ands l.fn.gates ≡ l.text.items ++ packed_ands (drop l.gate-index l.fn.gates)
