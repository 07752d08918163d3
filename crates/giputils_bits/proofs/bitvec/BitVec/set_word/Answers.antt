use Rattle.std.proofs.Common.{◌*◌, ◌<◌, ◌∙◌, length, ap, arith}
use Rattle.giputils_bits.specs.Bits.{with_word}
use Rattle.giputils_bits.proofs.Places.{kept-length}
use Rattle.giputils_bits.proofs.Written.{IsPacked-written, bits_of-written}
use Rattle.giputils_bits.proofs.bitvec.BitVec.set_word.Goals as goal

pub overflow_mul-left : goal.overflow_mul-left
overflow_mul-left g c = omega (arith, c.requires, kept-length _ _ _ c.self.view_is)

pub overflow_sub-left : goal.overflow_sub-left
overflow_sub-left g c = omega (arith, c.requires, kept-length _ _ _ c.self.view_is)

pub low_mask-digits-requires-clause-some : goal.low_mask-digits-requires-clause-some
low_mask-digits-requires-clause-some g c = omega (arith, c.requires, kept-length _ _ _ c.self.view_is, c.min.ensures)

pub put-requires : goal.put-requires
put-requires g c = omega (arith, c.requires, kept-length _ _ _ c.self.view_is, c.self.invariant.count)

pub invariant_of-self : goal.invariant_of-self
invariant_of-self g c =
    let within : c.args.k < length c.self.inside.words = omega (arith, c.requires, kept-length _ _ _ c.self.view_is, c.self.invariant.count) in
    rw (c.put.ensures, c.low_mask-digits.ensures, c.min.ensures) (IsPacked-written c.self.inside.len c.self.inside.words c.args.k c.args.word within c.self.invariant)

pub returns : goal.returns
returns g c =
    let within : c.args.k < length c.self.inside.words = omega (arith, c.requires, kept-length _ _ _ c.self.view_is, c.self.invariant.count) in
    let some : 64 * c.args.k < c.self.inside.len = omega (arith, c.requires, kept-length _ _ _ c.self.view_is) in
    rw (c.put.ensures, c.low_mask-digits.ensures, c.min.ensures) (bits_of-written c.self.inside.len c.self.inside.words c.args.k c.args.word within some)
    ∙ ap (with_word c.args.k c.args.word) c.self.view_is
