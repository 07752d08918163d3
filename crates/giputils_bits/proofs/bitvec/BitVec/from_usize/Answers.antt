use Rattle.std.proofs.Common.{◌<◌, ◌%◌, ◌^◌, ◌∙◌, sym, arith}
use Rattle.std.proofs.lemmas.Nat.{and_mask, pow_pos}
use Rattle.std.proofs.Math.Pow.{pow_mono}
use Rattle.giputils_bits.specs.Bits.{digits_of}
use Rattle.giputils_bits.proofs.Digits.{length-digits_of, digits_of-mod, digits_of-none}
use Rattle.giputils_bits.proofs.Places.{IsPacked-word, bits_of-word}
use Rattle.giputils_bits.proofs.Words.{IsPacked-from_words, bits_of-from_words}
use Rattle.giputils_bits.proofs.Patterns.{words_of_digits}
use Rattle.giputils_bits.proofs.bitvec.BitVec.from_usize.Goals as goal

pub returns-then-len-eq0-clause-ok : goal.returns-then-len-eq0-clause-ok
returns-then-len-eq0-clause-ok g c = rw c.if-len-eq0.true (c.new.ensures ∙ sym (digits_of-none c.args.v))

pub invariant_of-result : goal.invariant_of-result
invariant_of-result g c =
    let small : c.args.v % 2 ^ c.args.len < 2 ^ c.args.len = omega (arith, pow_pos c.args.len) in
    rw (c.of_word-words.ensures, c.low_mask.ensures, and_mask c.args.v c.args.len)
    (IsPacked-word c.args.len (c.args.v % 2 ^ c.args.len) (omega arith) small (omega (arith, pow_mono {i = c.args.len} {j = 64} (omega arith))))

pub returns-then-len-le-WORD_SIZE-clause-ok : goal.returns-then-len-le-WORD_SIZE-clause-ok
returns-then-len-le-WORD_SIZE-clause-ok g c =
    rw (c.of_word-words.ensures, c.low_mask.ensures, and_mask c.args.v c.args.len) (bits_of-word c.args.len (c.args.v % 2 ^ c.args.len) (omega arith) ∙ digits_of-mod c.args.len c.args.v)

pub invariant_of-result-2 : goal.invariant_of-result-2
invariant_of-result-2 g c =
    IsPacked-from_words c.args.len c.of_words-words.result (digits_of c.args.len c.args.v) (length-digits_of c.args.len c.args.v)
    (omega arith) (c.of_words-words.ensures ∙ rw (c.in_ok-words.ensures.items_if_clones_equal (λ y e. e))
    (words_of_digits c.args.len c.args.v (omega arith) (omega arith)))

pub returns-clause-ok : goal.returns-clause-ok
returns-clause-ok g c =
    bits_of-from_words c.args.len c.of_words-words.result (digits_of c.args.len c.args.v) (length-digits_of c.args.len c.args.v)
    (c.of_words-words.ensures ∙ rw (c.in_ok-words.ensures.items_if_clones_equal (λ y e. e))
    (words_of_digits c.args.len c.args.v (omega arith) (omega arith)))
