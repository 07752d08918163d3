use Rattle.std.proofs.Common.{arith}
use Rattle.giputils_bits.proofs.Text.{Counts-first, Counts-more, Counts-end}
use Rattle.giputils_bits.proofs.bitvec.text.hex_len.Goals as goal

pub loop-rest-init : goal.loop-rest-init
loop-rest-init c = Counts-first c.args.word (omega arith)

pub loop-rest-preserved : goal.loop-rest-preserved
loop-rest-preserved c = Counts-more c.args.word c.loop-rest.len c.loop-rest.rest (omega arith) c.loop-rest.invariant

pub returns-clause-len : goal.returns-clause-len
returns-clause-len c = Counts-end c.args.word c.loop-rest.len c.loop-rest.rest (omega arith) c.loop-rest.invariant
