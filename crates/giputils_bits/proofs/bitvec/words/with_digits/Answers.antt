use Rattle.giputils_bits.proofs.Ranged.{SetsDigits-or, SetsDigits-without}
use Rattle.giputils_bits.proofs.bitvec.words.with_digits.Goals as goal

pub returns-then-val : goal.returns-then-val
returns-then-val c = rw c.if-val.true (SetsDigits-or c.args.word c.args.digits)

pub returns-else-val : goal.returns-else-val
returns-else-val c = rw (c.if-val.false, c.apply.ensures) (SetsDigits-without c.args.word c.args.digits)
