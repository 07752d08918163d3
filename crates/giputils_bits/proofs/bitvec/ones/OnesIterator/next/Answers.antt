use Rattle.std.proofs.Common.{◌∙◌, w64, length, sym, ap, arith}
use Rattle.std.specs.Int.{trailing_zeros}
use Rattle.giputils_bits.proofs.Lowest.{SetsDigit-lowest}
use Rattle.giputils_bits.proofs.OnesLeft.{left-next, left-none, lowest_one}
use Rattle.giputils_bits.proofs.bitvec.ones.OnesIterator.next.Goals as goal

pub returns-then-k-words-clause-steps : goal.returns-then-k-words-clause-steps
returns-then-k-words-clause-steps c =
    let none = sym c.loop-word.invariant.left ∙ left-none c.loop-word.k c.loop-word.word c.self.inside.words.now c.loop-word.invariant.within c.loop-word-test.true c.if-k-words.true in
    (none, none)

pub overflow_add-result : goal.overflow_add-result
overflow_add-result c = omega (arith, (lowest_one c.loop-word.word c.loop-word-test.false c.loop-word.invariant.fits).0, c.loop-word.invariant.within, c.self.invariant.1)

pub returns-clause-steps : goal.returns-clause-steps
returns-clause-steps c =
    let lowest = lowest_one c.loop-word.word c.loop-word-test.false c.loop-word.invariant.fits in
    sym c.loop-word.invariant.left
    ∙ left-next c.loop-word.k c.loop-word.word c.self.inside.words.now c.loop-word.invariant.within
    (trailing_zeros w64 c.loop-word.word) _ lowest.0 lowest.1 lowest.2
    (SetsDigit-lowest c.loop-word.word c.loop-word-test.false c.loop-word.invariant.fits)

pub returns-clause-goes : goal.returns-clause-goes
returns-clause-goes c = record { on = λ finite. (tt, finite, omega (arith, ap length (returns-clause-steps c))); keeps = tt; rests = λ finite. tt }
