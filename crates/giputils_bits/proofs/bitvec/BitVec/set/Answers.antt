use Rattle.std.proofs.Common.{◌/◌, ◌<◌, length, arith}
use Rattle.giputils_bits.proofs.Places.{kept-length, SetsPlace-set, bits_of-SetsPlace, IsPacked-SetsPlace}
use Rattle.giputils_bits.proofs.bitvec.BitVec.set.Goals as goal

pub bounds-as_slice-k : goal.bounds-as_slice-k
bounds-as_slice-k g c = rw c.as_slice.ensures (omega (arith, kept-length _ _ _ c.self.view_is, c.self.invariant.count))

pub put-requires : goal.put-requires
put-requires g c = omega (arith, kept-length _ _ _ c.self.view_is, c.self.invariant.count)

pub invariant_of-self : goal.invariant_of-self
invariant_of-self g c =
    let inside : c.args.index < c.self.inside.len = omega (arith, kept-length _ _ _ c.self.view_is) in
    let within : c.args.index / 64 < length c.self.inside.words = omega (arith, c.self.invariant.count) in
    rw c.put.ensures (IsPacked-SetsPlace _ _ _ _ _ inside (SetsPlace-set c.self.inside.words c.args.index _ _ within (rw c.as_slice.ensures at c.with_bit.ensures)) c.self.invariant)

pub returns : goal.returns
returns g c =
    let inside : c.args.index < c.self.inside.len = omega (arith, kept-length _ _ _ c.self.view_is) in
    let within : c.args.index / 64 < length c.self.inside.words = omega (arith, c.self.invariant.count) in
    rw (c.put.ensures, ← c.self.view_is) (bits_of-SetsPlace _ _ _ _ _ inside (SetsPlace-set c.self.inside.words c.args.index _ _ within (rw c.as_slice.ensures at c.with_bit.ensures)))
