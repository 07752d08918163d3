use Rattle.giputils_bits.proofs.Rewritten.{SetsDigit-flip}
use Rattle.giputils_bits.proofs.bitvec.words.flipped_bit.Goals as goal

pub returns : goal.returns
returns c = SetsDigit-flip c.args.word c.args.k c.requires
