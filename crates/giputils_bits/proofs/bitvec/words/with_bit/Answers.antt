use Rattle.giputils_bits.proofs.Places.{SetsDigit-or, SetsDigit-and}
use Rattle.giputils_bits.proofs.bitvec.words.with_bit.Goals as goal

pub returns-then-val : goal.returns-then-val
returns-then-val c = rw c.if-val.true (SetsDigit-or c.args.word c.args.k c.requires)

pub returns-else-val : goal.returns-else-val
returns-else-val c = rw c.if-val.false (SetsDigit-and c.args.word c.args.k c.requires)
