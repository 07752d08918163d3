use Rattle.std.proofs.Common.{refl}
use Rattle.std.specs.Prelude.{bit_xor}
use Rattle.giputils_bits.specs.Logic.{xor}
use Rattle.giputils_bits.proofs.Digits.{has_digit-xor}
use Rattle.giputils_bits.proofs.Rewritten.{same_count, joined}
use Rattle.giputils_bits.proofs.bitvec.logic.BitVecBitXorAssignRefBitVec.bitxor_assign.Goals as goal

pub join-requires : goal.join-requires
join-requires g c = rw c.as_slice.ensures (same_count _ _ _ _ _ _ c.self.view_is c.rhs.view_is c.self.invariant c.rhs.invariant c.requires)

pub invariant_of-self : goal.invariant_of-self
invariant_of-self g c = (joined bit_xor xor has_digit-xor refl _ _ _ _ _ _ _ c.self.view_is c.rhs.view_is c.self.invariant c.rhs.invariant c.requires (rw c.as_slice.ensures at c.join.ensures)).0

pub returns : goal.returns
returns g c = record {
  after =
      (joined bit_xor xor has_digit-xor refl _ _ _ _ _ _ _ c.self.view_is c.rhs.view_is c.self.invariant c.rhs.invariant c.requires
      (rw c.as_slice.ensures at c.join.ensures)).1;
}
