use Rattle.std.proofs.Common.{◌≡◌, ◌∙◌, length, ap, arith}
use Rattle.giputils_bits.specs.Places.{bits_of}
use Rattle.giputils_bits.proofs.Places.{kept-length}
use Rattle.giputils_bits.proofs.bitvec.BitVec.next_zero.Goals as goal

pub false_place-requires-clause-inside : goal.false_place-requires-clause-inside
false_place-requires-clause-inside g c =
    omega (arith, ap length c.as_slice.ensures, c.self.invariant.count, c.len-end.ensures, kept-length _ _ _ c.self.view_is)

pub false_place-requires-clause-fits : goal.false_place-requires-clause-fits
false_place-requires-clause-fits g c = omega (
  arith,
  ap length c.as_slice.ensures,
  c.self.invariant.count,
  c.len-end.ensures,
  c.len-end.type_inv,
  kept-length _ _ _ c.self.view_is,
)

pub returns-clause-found : goal.returns-clause-found
returns-clause-found g c =
    let all : c.len-end.result ≡ c.self.inside.len = omega (arith, kept-length _ _ _ c.self.view_is, c.len-end.ensures) in
    let same : bits_of c.len-end.result c.as_slice.result.now ≡ c.args.self.now = ap (bits_of c.len-end.result) c.as_slice.ensures ∙ ap (λ n. bits_of n c.self.inside.words) all ∙ c.self.view_is in
    rw same at c.false_place.ensures.found

pub returns-clause-none : goal.returns-clause-none
returns-clause-none g c =
    let all : c.len-end.result ≡ c.self.inside.len = omega (arith, kept-length _ _ _ c.self.view_is, c.len-end.ensures) in
    let same : bits_of c.len-end.result c.as_slice.result.now ≡ c.args.self.now = ap (bits_of c.len-end.result) c.as_slice.ensures ∙ ap (λ n. bits_of n c.self.inside.words) all ∙ c.self.view_is in
    rw same at c.false_place.ensures.none
