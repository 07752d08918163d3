use Rattle.std.proofs.Common.{◌+◌, ◌*◌, ◌∙◌, arith}
use Rattle.giputils_bits.proofs.Ones.{count_more, count_all, true_count-within}
use Rattle.giputils_bits.proofs.bitvec.BitVec.count_ones.Goals as goal

pub overflow_add-count : goal.overflow_add-count
overflow_add-count g c =
    let more = count_more c.args.self.now c.words-words.result.now c.loop-k.k c.loop-k.count c.words-words.ensures.words c.loop-k-test.true c.loop-k.invariant in
    omega (arith, more, true_count-within c.args.self.now (64 * (c.loop-k.k + 1)), c.words-words.ensures.fits)

pub loop-k-preserved : goal.loop-k-preserved
loop-k-preserved g c = count_more c.args.self.now c.words-words.result.now c.loop-k.k c.loop-k.count c.words-words.ensures.words c.loop-k-test.true c.loop-k.invariant

pub returns : goal.returns
returns g c = c.loop-k.invariant ∙ count_all c.args.self.now c.words-words.result.now c.loop-k.k c.words-words.ensures.words (omega arith)
