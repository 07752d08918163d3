use Rattle.std.proofs.Common.{◌≡◌, ◌-◌, ◌∙◌, length, sym, arith}
use Rattle.giputils_bits.proofs.Logic.{empty_is_none}
use Rattle.giputils_bits.proofs.Places.{kept-length}
use Rattle.giputils_bits.proofs.Written.{last_taken}
use Rattle.giputils_bits.proofs.bitvec.BitVec.pop.Goals as goal

pub returns-then-self-eq0 : goal.returns-then-self-eq0
returns-then-self-eq0 g c = let none = empty_is_none c.args.self.now (sym (kept-length _ _ _ c.self.view_is) ∙ c.if-self-eq0.true) in (none, none)

pub get-bit-requires : goal.get-bit-requires
get-bit-requires g c = omega (arith, kept-length _ _ _ c.self.view_is)

pub returns : goal.returns
returns g c =
    let last : c.self.inside.len - 1 ≡ length c.args.self.now - 1 = omega (arith, kept-length _ _ _ c.self.view_is) in
    rw (c.truncate.ensures, c.get-bit.ensures, last) (last_taken c.args.self.now (omega (arith, kept-length _ _ _ c.self.view_is)))
