use Rattle.std.proofs.Common.{◌+◌, ◌*◌, ◌^◌, ◌<◌, ◌∙◌, length, get_or, ap, arith, rules}
use Rattle.giputils_bits.proofs.Ones.{true_count-within}
use Rattle.giputils_bits.proofs.Places.{kept-length}
use Rattle.giputils_bits.proofs.Ranged.{alone, length-alone, range_first, range_more, range_all}
use Rattle.giputils_bits.proofs.bitvec.BitVec.count_ones_in.Goals as goal

pub loop-k-init : goal.loop-k-init
loop-k-init g c = range_first _ c.self.inside.words c.args.self.now c.args.range.start c.args.range.end c.self.view_is c.self.invariant c.requires.ordered c.requires.inside

pub bounds-words-k : goal.bounds-words-k
bounds-words-k g c = omega (arith, ap length c.as_slice-words.ensures, c.word_count-k-end.ensures, c.requires.inside, kept-length _ _ _ c.self.view_is, c.self.invariant.count)

pub overflow_add-count : goal.overflow_add-count
overflow_add-count g c =
    let n = c.self.inside.len in
    let ws = c.self.inside.words in
    let bs = c.args.self.now in
    let start = c.args.range.start in
    let end = c.args.range.end in
    let fits : get_or c.as_slice-words.result.now c.loop-k.k 0 < 2 ^ 64 = search rules in
    let more = range_more n ws bs start end c.self.view_is c.self.invariant c.requires.ordered c.requires.inside c.loop-k.k c.loop-k.count (rw c.as_slice-words.ensures at fits) c.loop-k.invariant in
    rw (c.as_slice-words.ensures, c.digits_between-digits.ensures) (omega (
      arith,
      more,
      true_count-within (alone bs start end) (64 * (c.loop-k.k + 1)),
      length-alone n ws bs start end c.self.view_is c.self.invariant c.requires.ordered c.requires.inside,
    ))

pub loop-k-preserved : goal.loop-k-preserved
loop-k-preserved g c =
    let fits : get_or c.as_slice-words.result.now c.loop-k.k 0 < 2 ^ 64 = search rules in
    rw (c.as_slice-words.ensures, c.digits_between-digits.ensures)
    (range_more c.self.inside.len c.self.inside.words c.args.self.now c.args.range.start c.args.range.end c.self.view_is c.self.invariant
    c.requires.ordered c.requires.inside c.loop-k.k c.loop-k.count (rw c.as_slice-words.ensures at fits) c.loop-k.invariant)

pub returns : goal.returns
returns g c =
    c.loop-k.invariant ∙ range_all c.self.inside.len c.self.inside.words c.args.self.now c.args.range.start c.args.range.end c.self.view_is c.self.invariant
    c.requires.ordered c.requires.inside c.loop-k.k (omega (arith, c.word_count-k-end.ensures))
