-- The word is read from the front: a byte that is no digit, or a front that writes too much, decides.
use Rattle.std.proofs.Common.{◌≡◌, ◌<◌, ℕ, List, ◌+◌, ◌-◌, ◌*◌, length, take, get_or, sym, arith, rules, take_all}
use Rattle.std.proofs.lemmas.Int.Digits.{digits_value_more}
use Rattle.std.proofs.lemmas.Str.Parse.{digits_value-take-le}
use Rattle.std.specs.Char.{digit_value}
use Rattle.std.specs.Str.Parse.{digits_value}
use Rattle.giputils_text.proofs.AsciiDigits.{all_ascii_digits-other, all_ascii_digits-more, digit_value-ascii}
use Rattle.giputils_text.proofs.NumberLemmas.{number_up_to-other, number_up_to-large, number_up_to-small}
use Rattle.giputils_text.proofs.numbers.number.Goals as goal

-- one more digit, as the code adds it
one_more : (word : List ℕ) (i value byte : ℕ) → i < length word → value ≡ digits_value 10 (take i word)
    → byte ≡ get_or word i 0 - 48 → digit_value (get_or word i 0) ≡ get_or word i 0 - 48
    → value * 10 + byte ≡ digits_value 10 (take (i + 1) word)
one_more word i value byte within so_far is digit = omega (arith, digits_value_more 10 word i within)

pub returns-then-not-is_ascii_digit-clause-number : goal.returns-then-not-is_ascii_digit-clause-number
returns-then-not-is_ascii_digit-clause-number c =
    let word = c.args.word.now in
    let other = all_ascii_digits-other word c.loop-digit.digit-index c.loop-digit-test.true (cc) in
    sym (number_up_to-other c.args.greatest word other)

pub returns-then-value-from-clause-number : goal.returns-then-value-from-clause-number
returns-then-value-from-clause-number c =
    let word = c.args.word.now in
    let i = c.loop-digit.digit-index in
    let step = one_more word i _ _ c.loop-digit-test.true c.loop-digit.invariant.value c.from.ensures
    (digit_value-ascii _ (cc)) in
    let large : c.args.greatest < digits_value 10 word =
    omega (arith, digits_value-take-le 10 word (i + 1) (omega arith)) in
    sym (number_up_to-large c.args.greatest word large)

pub loop-digit-preserved : goal.loop-digit-preserved
loop-digit-preserved c =
    let word = c.args.word.now in
    let i = c.loop-digit.digit-index in
    record {
      digits = all_ascii_digits-more word i c.loop-digit-test.true c.loop-digit.invariant.digits (cc);
      value = one_more word i _ _ c.loop-digit-test.true c.loop-digit.invariant.value c.from.ensures
          (digit_value-ascii _ (cc));
      small = omega arith;
    }

pub returns-clause-number : goal.returns-clause-number
returns-clause-number c =
    let word = c.args.word.now in
    let all : take c.loop-digit.digit-index word ≡ word = take_all _ _ c.loop-digit-test.false in
    let some : 0 < length word = search rules in
    let digits = rw all at c.loop-digit.invariant.digits in
    let value = rw all at c.loop-digit.invariant.value in
    rw value (sym (number_up_to-small c.args.greatest word some digits (omega arith)))
