use Rattle.std.proofs.Common.{◌∙◌, sym, ap, refl, length}
use Rattle.std.specs.Bool.{one_answer}
use Rattle.std.specs.Cmp.{booleans_Decides}
use Rattle.std.proofs.lemmas.Slice.Eq.{slice_eq-Decides}
use Rattle.giputils_bits.specs.Bits.{word_count, words_of}
use Rattle.giputils_bits.proofs.Words.{length-words_of, same_from_words_of}
use Rattle.giputils_bits.proofs.bitvec.compare.BitVecPartialEq.eq.Goals as goal

pub same_words-requires : goal.same_words-requires
same_words-requires g c =
    let long = sym c.len.ensures ∙ c.if-len.true ∙ c.len-2.ensures in
    ap length c.words.ensures.words ∙ length-words_of c.args.self.now ∙ ap word_count long ∙ sym (ap length c.words-then-len.ensures.words ∙ length-words_of c.args.other.now)

pub returns-then-len : goal.returns-then-len
returns-then-len g c =
    let same = c.same_words.ensures in
    let long = sym c.len.ensures ∙ c.if-len.true ∙ c.len-2.ensures in
    one_answer _ _ (
      λ e. same_from_words_of c.args.self.now c.args.other.now long (sym c.words.ensures.words ∙ same.0 e ∙ c.words-then-len.ensures.words),
      λ e. same.1 (c.words.ensures.words ∙ ap words_of e ∙ sym c.words-then-len.ensures.words),
    )
    (slice_eq-Decides booleans_Decides _ _ _ refl)
