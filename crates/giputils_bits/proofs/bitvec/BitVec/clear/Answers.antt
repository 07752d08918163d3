use Rattle.std.proofs.Common.{arith}
use Rattle.giputils_bits.proofs.Places.{places-none, IsPacked-word}
use Rattle.giputils_bits.proofs.bitvec.BitVec.clear.Goals as goal

pub invariant_of-self : goal.invariant_of-self
invariant_of-self g c = rw c.reset.ensures (IsPacked-word 0 0 (omega arith) (omega arith) (omega arith))

pub returns : goal.returns
returns g c = places-none _ 0
