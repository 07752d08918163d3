use Rattle.std.proofs.Common.{◌∙◌, sym}
use Rattle.giputils_bits.proofs.Patterns.{value_of-zeros, value_of-ones}
use Rattle.giputils_bits.proofs.bitvec.words.filled_word.Goals as goal

pub returns-then-val : goal.returns-then-val
returns-then-val c = rw c.if-val.true (c.low_mask.ensures ∙ sym (value_of-ones c.args.count))

pub returns-else-val : goal.returns-else-val
returns-else-val c = rw c.if-val.false (sym (value_of-zeros c.args.count))
