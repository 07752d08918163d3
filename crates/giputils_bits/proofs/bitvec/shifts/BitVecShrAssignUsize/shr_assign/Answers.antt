use Rattle.giputils_bits.proofs.Shifted.{IsPacked-moved_down, bits_of-moved_down}
use Rattle.giputils_bits.proofs.bitvec.shifts.BitVecShrAssignUsize.shr_assign.Goals as goal

pub invariant_of-self : goal.invariant_of-self
invariant_of-self g c =
    IsPacked-moved_down c.self.inside.len c.args.rhs c.self.inside.words c.shift_down.new.self c.args.self.now c.self.view_is c.self.invariant c.shift_down.ensures

pub returns : goal.returns
returns g c = record {
  after = bits_of-moved_down c.self.inside.len c.args.rhs c.self.inside.words c.shift_down.new.self c.args.self.now c.self.view_is c.self.invariant c.shift_down.ensures;
}
