use Rattle.std.proofs.Common.{◌∙◌, arith, sym, false}
use Rattle.giputils_bits.proofs.Places.{kept-length, get_or-bits_of}
use Rattle.giputils_bits.proofs.bitvec.BitVec.get.Goals as goal

pub bit_at-requires : goal.bit_at-requires
bit_at-requires g c = rw c.as_slice.ensures (omega (arith, kept-length _ _ _ c.self.view_is, c.self.invariant.count))

pub returns : goal.returns
returns g c = c.bit_at.ensures ∙ rw (c.as_slice.ensures, ← c.self.view_is) (sym (get_or-bits_of _ _ c.args.index false (omega (arith, kept-length _ _ _ c.self.view_is))))
