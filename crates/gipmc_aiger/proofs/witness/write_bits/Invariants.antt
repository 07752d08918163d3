-- What was written, and what is left to write, are the line.
use Rattle.std.proofs.Common.{◌≡◌, ◌++◌, drop}
use Rattle.gipmc_aiger.specs.Witnesses.{bits_line}
use Rattle.gipmc_aiger.proofs.witness.write_bits.Given as goal

abbrev pub invariant-loop-bit : goal.invariant-loop-bit
invariant-loop-bit l = l.fn.text.items ++ bits_line l.fn.bits ≡ l.text.items ++ bits_line (drop l.bit-index l.fn.bits)
