use Rattle.std.proofs.Common.{◌<◌, ◌^◌, get_or, rules}
use Rattle.giputils_bits.proofs.Words.{word_of-bits_of}
use Rattle.giputils_bits.proofs.bitvec.BitVec.to_usize.Goals as goal

pub returns : goal.returns
returns g c =
    let fits : get_or c.as_slice.result.now 0 0 < 2 ^ 64 = search rules in
    rw (c.as_slice.ensures, ← c.self.view_is) (word_of-bits_of c.self.inside.len c.self.inside.words 0 c.self.invariant (rw c.as_slice.ensures at fits))
