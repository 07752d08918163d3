use Rattle.std.proofs.Common.{◌≡◌, ◌∙◌, ◌+◌, ◌-◌, true, length, refl, sym, ap, arith}
use Rattle.std.proofs.lemmas.Bool.Decides.{Decides-eqb}
use Rattle.giputils_bits.specs.Bits.{words_of}
use Rattle.giputils_bits.proofs.Places.{kept-length}
use Rattle.giputils_bits.proofs.Patterns.{empty_is_replicate, ones_from_words, words_of_ones, words_of_ones_last}
use Rattle.giputils_bits.proofs.Words.{length-words_of}
use Rattle.giputils_bits.proofs.bitvec.BitVec.all.Goals as goal

pub returns-then-self-eq0 : goal.returns-then-self-eq0
returns-then-self-eq0 g c = (λ _. empty_is_replicate _ true (sym (kept-length _ _ _ c.self.view_is) ∙ c.if-self-eq0.true), λ _. refl)

pub overflow_sub-last : goal.overflow_sub-last
overflow_sub-last g c = omega (arith, ap length c.words-words.ensures.words, length-words_of c.args.self.now, kept-length _ _ _ c.self.view_is)

pub bounds-words-last : goal.bounds-words-last
bounds-words-last g c = omega (arith, ap length c.words-words.ensures.words, length-words_of c.args.self.now, kept-length _ _ _ c.self.view_is)

pub overflow_mul-last : goal.overflow_mul-last
overflow_mul-last g c = omega (arith, ap length c.words-words.ensures.words, length-words_of c.args.self.now, kept-length _ _ _ c.self.view_is)

pub overflow_sub-self-inside : goal.overflow_sub-self-inside
overflow_sub-self-inside g c = omega (arith, ap length c.words-words.ensures.words, length-words_of c.args.self.now, kept-length _ _ _ c.self.view_is)

pub low_mask-requires-clause-some : goal.low_mask-requires-clause-some
low_mask-requires-clause-some g c = omega (arith, ap length c.words-words.ensures.words, length-words_of c.args.self.now, kept-length _ _ _ c.self.view_is)

pub low_mask-requires-clause-fits : goal.low_mask-requires-clause-fits
low_mask-requires-clause-fits g c = omega (arith, ap length c.words-words.ensures.words, length-words_of c.args.self.now, kept-length _ _ _ c.self.view_is)

pub returns-then-words-last : goal.returns-then-words-last
returns-then-words-last g c =
    let bs = c.args.self.now in
    let long = kept-length _ _ _ c.self.view_is in
    let count : length (words_of bs) - 1 + 1 ≡ length (words_of bs) = omega (arith, length-words_of bs, long) in
    let high = rw (c.words-words.ensures.words, long) at (c.if-words-last.true ∙ c.low_mask.ensures) in
    let checked = rw c.words-words.ensures.words at c.all_equal.ensures in (
      λ yes. ones_from_words bs (length (words_of bs) - 1) count high (checked.0 yes),
      λ e. checked.1 (words_of_ones bs (length (words_of bs) - 1) count e),
    )

pub returns-else-words-last : goal.returns-else-words-last
returns-else-words-last g c =
    let bs = c.args.self.now in
    let long = kept-length _ _ _ c.self.view_is in
    let count : length (words_of bs) - 1 + 1 ≡ length (words_of bs) = omega (arith, length-words_of bs, long) in (
      λ yes. absurd (c.if-words-last.false ((Decides-eqb _ _).0 yes)),
      λ e. (Decides-eqb _ _).1 (rw (c.low_mask.ensures, c.words-words.ensures.words, long) (words_of_ones_last bs (length (words_of bs) - 1) count e)),
    )
