use Rattle.std.proofs.Common.{arith}
use Rattle.giputils_bits.proofs.Places.{places-none, IsPacked-word}
use Rattle.giputils_bits.proofs.bitvec.BitVec.new.Goals as goal

pub invariant_of-result : goal.invariant_of-result
invariant_of-result g c = rw c.of_word.ensures (IsPacked-word 0 0 (omega arith) (omega arith) (omega arith))

pub returns : goal.returns
returns g c = places-none _ 0
