use Rattle.std.proofs.Common.{◌≡◌, ◌-◌, ◌∙◌, ap, arith}
use Rattle.giputils_bits.specs.Places.{places}
use Rattle.giputils_bits.proofs.bitvec.iter.BitVecIntoIterator.into_iter.Goals as goal

pub returns : goal.returns
returns g c =
    let all : c.self.inside.len - 0 ≡ c.self.inside.len = omega arith in
    record { into_iter_gives = ap (λ n. places c.self.inside.words 0 n) all ∙ c.self.view_is }
