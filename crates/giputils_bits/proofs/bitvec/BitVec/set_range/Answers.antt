use Rattle.std.proofs.Common.{arith}
use Rattle.giputils_bits.proofs.Places.{kept-length}
use Rattle.giputils_bits.proofs.Ranged.{IsPacked-ranged, bits_of-ranged}
use Rattle.giputils_bits.proofs.bitvec.BitVec.set_range.Goals as goal

pub set_range-requires : goal.set_range-requires
set_range-requires g c = omega (arith, c.requires.inside, kept-length _ _ _ c.self.view_is, c.self.invariant.count)

pub invariant_of-self : goal.invariant_of-self
invariant_of-self g c =
    IsPacked-ranged c.self.inside.len c.self.inside.words c.set_range.new.self c.args.self.now c.args.range.start c.args.range.end
    c.args.val c.self.view_is c.self.invariant c.requires.ordered (omega (arith, c.requires.inside, kept-length _ _ _ c.self.view_is)) c.set_range.ensures

pub returns : goal.returns
returns g c =
    bits_of-ranged c.self.inside.len c.self.inside.words c.set_range.new.self c.args.self.now c.args.range.start c.args.range.end
    c.args.val c.self.view_is c.self.invariant c.requires.ordered (omega (arith, c.requires.inside, kept-length _ _ _ c.self.view_is)) c.set_range.ensures
