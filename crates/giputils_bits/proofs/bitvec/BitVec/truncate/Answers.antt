use Rattle.std.proofs.Common.{◌∙◌, take, sym, ap, arith}
use Rattle.std.proofs.lemmas.List.{take_all}
use Rattle.giputils_bits.proofs.Places.{kept-length}
use Rattle.giputils_bits.proofs.Written.{IsPacked-shortened, bits_of-shortened}
use Rattle.giputils_bits.proofs.bitvec.BitVec.truncate.Goals as goal

pub returns-then-len-self : goal.returns-then-len-self
returns-then-len-self g c = sym (take_all c.args.len c.args.self.now (omega (arith, kept-length _ _ _ c.self.view_is)))

pub invariant_of-self : goal.invariant_of-self
invariant_of-self g c =
    rw (c.put.ensures, c.low_mask.ensures, c.as_slice.ensures, c.truncate.ensures)
    (IsPacked-shortened c.self.inside.len c.args.len c.self.inside.words (omega arith) (omega arith) c.self.invariant)

pub returns : goal.returns
returns g c =
    rw (c.put.ensures, c.low_mask.ensures, c.as_slice.ensures, c.truncate.ensures)
    (bits_of-shortened c.self.inside.len c.args.len c.self.inside.words (omega arith) (omega arith) c.self.invariant ∙ ap (take c.args.len) c.self.view_is)
