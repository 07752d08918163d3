-- The number that the digits so far write.
use Rattle.std.proofs.Common.{◌≡◌, take}
use Rattle.giputils_bits.specs.Prelude.{places_written, value_of}
use Rattle.giputils_bits.proofs.bitvec.parsed.number.Given as goal

abbrev pub invariant-loop-digit : goal.invariant-loop-digit
invariant-loop-digit l = l.number ≡ value_of (places_written (take l.digit-index l.digits))
