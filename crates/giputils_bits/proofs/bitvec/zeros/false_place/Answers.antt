use Rattle.std.proofs.Common.{◌+◌, ◌-◌, ◌*◌, ◌/◌, ◌%◌, ◌^◌, ◌<◌, get_or, w64, arith, rules}
use Rattle.std.specs.Int.{bit_not}
use Rattle.std.proofs.lemmas.Nat.{and_le_r}
use Rattle.giputils_bits.proofs.FalsePlaces.{IsTrueBefore-first, IsTrueBefore-next, none_false, none_in_words, none_before_end, next_false}
use Rattle.giputils_bits.proofs.OnesLeft.{lowest_one}
use Rattle.giputils_bits.proofs.bitvec.zeros.false_place.Goals as goal

pub returns-then-start-end-clause-none : goal.returns-then-start-end-clause-none
returns-then-start-end-clause-none c = none_false c.args.words.now c.args.start c.args.end (λ j h l. absurd (omega arith))

pub loop-word-init : goal.loop-word-init
loop-word-init c =
    let fits : get_or c.args.words.now (c.args.start / 64) 0 < 2 ^ 64 = search rules in
    record {
      within = omega (arith, c.requires.inside);
      past = omega arith;
      fits = omega (arith, and_le_r (bit_not w64 (get_or c.args.words.now (c.args.start / 64) 0)) ((2 ^ 64 - 1) * 2 ^ (c.args.start % 64) % 2 ^ 64));
      before = IsTrueBefore-first c.args.words.now c.args.start fits;
    }

pub returns-then-k-words-clause-none : goal.returns-then-k-words-clause-none
returns-then-k-words-clause-none c =
    none_in_words c.args.words.now c.args.start c.args.end c.loop-word.k (omega (arith, c.requires.inside, c.if-k-words.true))
    (rw c.loop-word-test.true at c.loop-word.invariant.before)

pub loop-word-preserved : goal.loop-word-preserved
loop-word-preserved c =
    let fits : get_or c.args.words.now (c.loop-word.k + 1) 0 < 2 ^ 64 = search rules in
    record {
      within = omega (arith, c.loop-word.invariant.within);
      past = omega (arith, c.loop-word.invariant.past);
      fits = search rules;
      before = IsTrueBefore-next c.args.words.now c.args.start c.loop-word.k c.loop-word.invariant.past fits (rw c.loop-word-test.true at c.loop-word.invariant.before);
    }

pub overflow_add-place : goal.overflow_add-place
overflow_add-place c =
    omega (arith, (lowest_one c.loop-word.word c.loop-word-test.false c.loop-word.invariant.fits).0, c.loop-word.invariant.within, c.requires.fits)

pub returns-then-place-end-clause-found : goal.returns-then-place-end-clause-found
returns-then-place-end-clause-found c =
    next_false c.args.words.now c.args.start c.args.end c.loop-word.k c.loop-word.word c.loop-word-test.false
    c.loop-word.invariant.fits c.loop-word.invariant.before (omega arith)

pub returns-else-place-end-clause-none : goal.returns-else-place-end-clause-none
returns-else-place-end-clause-none c =
    none_before_end c.args.words.now c.args.start c.args.end c.loop-word.k c.loop-word.word c.loop-word-test.false
    c.loop-word.invariant.fits c.loop-word.invariant.before (omega arith)
