use Rattle.std.proofs.Common.{◌≡◌, ◌-◌, ◌∙◌, length, ap, arith}
use Rattle.giputils_bits.specs.Places.{places}
use Rattle.giputils_bits.proofs.Places.{kept-length}
use Rattle.giputils_bits.proofs.bitvec.BitVec.iter.Goals as goal

pub invariant_of-result : goal.invariant_of-result
invariant_of-result g c = (omega arith, omega (arith, ap length c.as_slice.ensures, kept-length _ _ _ c.self.view_is, c.len.ensures, c.self.invariant.count))

pub returns-clause-items : goal.returns-clause-items
returns-clause-items g c =
    let all : c.len.result - 0 ≡ c.self.inside.len = omega (arith, kept-length _ _ _ c.self.view_is, c.len.ensures) in
    ap (λ ws. places ws 0 (c.len.result - 0)) c.as_slice.ensures ∙ ap (λ n. places c.self.inside.words 0 n) all ∙ c.self.view_is
