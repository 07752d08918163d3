use Rattle.std.proofs.Common.{◌≡◌, ◌+◌, ◌-◌, ◌/◌, ◌∙◌, length, sym, arith}
use Rattle.giputils_bits.proofs.Places.{kept-length}
use Rattle.giputils_bits.proofs.Shifted.{bits_of-moved_up, none_moved}
use Rattle.giputils_bits.proofs.Written.{IsPacked-trimmed, bits_of-trimmed}
use Rattle.giputils_bits.proofs.bitvec.shifts.BitVecShlAssignUsize.shl_assign.Goals as goal

pub returns-then-self-eq0 : goal.returns-then-self-eq0
returns-then-self-eq0 g c = record { after = none_moved c.args.self.now _ (sym (kept-length _ _ _ c.self.view_is) ∙ c.if-self-eq0.true) }

pub invariant_of-self : goal.invariant_of-self
invariant_of-self g c =
    let count : length c.shift_up.new.self ≡ (c.self.inside.len - 1) / 64 + 1 = omega (arith, c.shift_up.ensures.count, c.self.invariant.count) in
    rw (c.put.ensures, c.low_mask.ensures, c.as_slice.ensures) (IsPacked-trimmed c.self.inside.len c.shift_up.new.self (omega arith) count)

pub returns : goal.returns
returns g c =
    let count : length c.shift_up.new.self ≡ (c.self.inside.len - 1) / 64 + 1 = omega (arith, c.shift_up.ensures.count, c.self.invariant.count) in
    record {
      after =
          rw (c.put.ensures, c.low_mask.ensures, c.as_slice.ensures)
          (bits_of-trimmed c.self.inside.len c.shift_up.new.self (omega arith) count
          ∙ bits_of-moved_up c.self.inside.len c.args.rhs c.self.inside.words c.shift_up.new.self c.args.self.now c.self.view_is c.self.invariant c.shift_up.ensures);
    }
