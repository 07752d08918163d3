use Rattle.std.proofs.Common.{◌∙◌, ◌-◌, ◌/◌, arith, replicate, refl}
use Rattle.std.proofs.lemmas.List.{length-replicate}
use Rattle.giputils_bits.proofs.Words.{IsPacked-from_words, bits_of-from_words}
use Rattle.giputils_bits.proofs.Patterns.{one_word_of_replicate, words_of_replicate}
use Rattle.giputils_bits.proofs.bitvec.BitVec.from_elem.Goals as goal

pub invariant_of-result : goal.invariant_of-result
invariant_of-result g c =
    IsPacked-from_words c.args.len c.of_word-words.result (replicate c.args.len c.args.val) (length-replicate c.args.len c.args.val)
    (omega arith) (c.of_word-words.ensures ∙ rw c.filled_word.ensures (one_word_of_replicate c.args.len c.args.val (omega arith) (omega arith)))

pub returns-then-last-eq0-clause-ok : goal.returns-then-last-eq0-clause-ok
returns-then-last-eq0-clause-ok g c =
    bits_of-from_words c.args.len c.of_word-words.result (replicate c.args.len c.args.val) (length-replicate c.args.len c.args.val)
    (c.of_word-words.ensures ∙ rw c.filled_word.ensures (one_word_of_replicate c.args.len c.args.val (omega arith) (omega arith)))

pub invariant_of-result-2 : goal.invariant_of-result-2
invariant_of-result-2 g c =
    IsPacked-from_words c.args.len c.of_words-words.result (replicate c.args.len c.args.val) (length-replicate c.args.len c.args.val)
    (omega arith) (c.of_words-words.ensures ∙ rw (
      c.in_ok-words.ensures.items_if_clones_equal (λ y e. e),
      c.filled_word-2.ensures,
      c.filled_word-3.ensures,
    ) (words_of_replicate c.args.len ((c.args.len - 1) / 64) c.args.val (omega arith) refl))

pub returns-clause-ok : goal.returns-clause-ok
returns-clause-ok g c =
    bits_of-from_words c.args.len c.of_words-words.result (replicate c.args.len c.args.val) (length-replicate c.args.len c.args.val)
    (c.of_words-words.ensures ∙ rw (
      c.in_ok-words.ensures.items_if_clones_equal (λ y e. e),
      c.filled_word-2.ensures,
      c.filled_word-3.ensures,
    ) (words_of_replicate c.args.len ((c.args.len - 1) / 64) c.args.val (omega arith) refl))
