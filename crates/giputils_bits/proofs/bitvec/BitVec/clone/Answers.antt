use Rattle.std.proofs.Common.{arith}
use Rattle.giputils_bits.proofs.Places.{kept-length}
use Rattle.giputils_bits.proofs.bitvec.BitVec.clone.Goals as goal

pub returns-in_err-words-clause-inline : goal.returns-in_err-words-clause-inline
returns-in_err-words-clause-inline g c = λ short. let never = c.in_err-words.ensures.inline (omega (arith, kept-length _ _ _ c.self.view_is, c.self.invariant.count)) in cc
