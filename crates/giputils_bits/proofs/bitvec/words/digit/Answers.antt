use Rattle.giputils_bits.proofs.Places.{SetsDigit-one}
use Rattle.giputils_bits.proofs.bitvec.words.digit.Goals as goal

pub returns : goal.returns
returns c = SetsDigit-one c.args.k c.from.result c.args.val c.from.ensures c.requires
