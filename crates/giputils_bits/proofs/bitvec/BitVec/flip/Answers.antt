use Rattle.std.proofs.Common.{◌/◌, ◌<◌, ◌∙◌, not, set, get_or, length, false, sym, ap, arith}
use Rattle.giputils_bits.specs.Places.{bits_of}
use Rattle.giputils_bits.proofs.Places.{kept-length, place_is, get_or-bits_of, SetsPlace-set, bits_of-SetsPlace, IsPacked-SetsPlace}
use Rattle.giputils_bits.proofs.bitvec.BitVec.flip.Goals as goal

pub bounds-as_slice-k : goal.bounds-as_slice-k
bounds-as_slice-k g c = rw c.as_slice.ensures (omega (arith, kept-length _ _ _ c.self.view_is, c.self.invariant.count))

pub put-requires : goal.put-requires
put-requires g c = omega (arith, kept-length _ _ _ c.self.view_is, c.self.invariant.count)

pub invariant_of-self : goal.invariant_of-self
invariant_of-self g c =
    let inside : c.args.index < c.self.inside.len = omega (arith, kept-length _ _ _ c.self.view_is) in
    let within : c.args.index / 64 < length c.self.inside.words = omega (arith, c.self.invariant.count) in
    rw c.put.ensures (IsPacked-SetsPlace _ _ _ _ _ inside (SetsPlace-set c.self.inside.words c.args.index _ _ within (rw c.as_slice.ensures at c.flipped_bit.ensures)) c.self.invariant)

pub returns : goal.returns
returns g c =
    let n = c.self.inside.len in
    let ws = c.self.inside.words in
    let i = c.args.index in
    let inside : i < n = omega (arith, kept-length _ _ _ c.self.view_is) in
    let within : i / 64 < length ws = omega (arith, c.self.invariant.count) in
    rw c.put.ensures (bits_of-SetsPlace _ _ _ _ _ inside (SetsPlace-set ws i _ _ within (rw c.as_slice.ensures at c.flipped_bit.ensures)))
    ∙ ap (λ b. set (bits_of n ws) i (not b)) (sym (place_is ws i) ∙ sym (get_or-bits_of n ws i false inside))
    ∙ ap (λ bs. set bs i (not (get_or bs i false))) c.self.view_is
