use Rattle.std.proofs.Common.{◌≡◌, ◌∙◌, length, ap, arith}
use Rattle.giputils_bits.specs.Prelude.{bits_of, not_of, true_places}
use Rattle.giputils_bits.proofs.Places.{kept-length}
use Rattle.giputils_bits.proofs.bitvec.BitVec.iter_zeros.Goals as goal

pub invariant_of-result : goal.invariant_of-result
invariant_of-result g c = let long = ap length c.as_slice.ensures in (
  omega (arith, long, c.self.invariant.count, c.len.ensures, kept-length _ _ _ c.self.view_is),
  omega (
    arith,
    long,
    c.self.invariant.count,
    c.len.ensures,
    c.len.type_inv,
    kept-length _ _ _ c.self.view_is,
  ),
)

pub returns-clause-places : goal.returns-clause-places
returns-clause-places g c =
    let all : c.len.result ≡ c.self.inside.len = omega (arith, kept-length _ _ _ c.self.view_is, c.len.ensures) in
    ap (λ ws. true_places 0 (not_of (bits_of c.len.result ws))) c.as_slice.ensures
    ∙ ap (λ n. true_places 0 (not_of (bits_of n c.self.inside.words))) all ∙ ap (λ bs. true_places 0 (not_of bs)) c.self.view_is
