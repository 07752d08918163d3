use Rattle.giputils_bits.proofs.Digits.{digits_of-one}
use Rattle.giputils_bits.proofs.bitvec.BitVec.one.Goals as goal

pub returns-clause-ok : goal.returns-clause-ok
returns-clause-ok g c = rw (← digits_of-one c.args.len c.requires) c.from_usize.ensures.ok
