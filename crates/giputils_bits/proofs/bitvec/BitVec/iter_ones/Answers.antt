use Rattle.std.proofs.Common.{ap, length, ◌∙◌, ◌*◌, get_or, arith}
use Rattle.giputils_bits.specs.Prelude.{bits_of, true_places, words_from}
use Rattle.giputils_bits.proofs.Places.{kept-length}
use Rattle.giputils_bits.proofs.OnesLeft.{left-all}
use Rattle.giputils_bits.proofs.bitvec.BitVec.iter_ones.Goals as goal

pub invariant_of-result : goal.invariant_of-result
invariant_of-result g c = let long = ap length c.as_slice-words.ensures in (
  omega (arith, long, c.self.invariant.count),
  omega (
    arith,
    long,
    c.self.invariant.count,
    c.len.ensures,
    c.len.type_inv,
    kept-length _ _ _ c.self.view_is,
  ),
)

pub returns-clause-places : goal.returns-clause-places
returns-clause-places g c =
    ap (λ ws. true_places 0 (bits_of (64 * length ws) (words_from 0 (get_or ws 0 0) ws))) c.as_slice-words.ensures
    ∙ left-all c.self.inside.len c.self.inside.words c.self.invariant ∙ ap (true_places 0) c.self.view_is
