use Rattle.std.proofs.Common.{◌≡◌, ◌≢◌, ℕ, ◌+◌, ◌-◌, ◌/◌, ◌^◌, ◌<◌, ◌∙◌, length, get_or, sym, arith, rules, refl}
use Rattle.std.proofs.lemmas.List.{length-take-le}
use Rattle.giputils_bits.specs.Bits.{word_count}
use Rattle.giputils_bits.proofs.Text.{binary_text_is}
use Rattle.giputils_bits.proofs.Words.{length-words_of, get_or-words_of}
use Rattle.giputils_bits.proofs.Writes.{styled_more, plain_too}
use Rattle.giputils_bits.proofs.bitvec.text.write_binary.Goals as goal

pub bounds-words-last : goal.bounds-words-last
bounds-words-last g c = rw c.words-words.ensures.words (omega (arith, c.len-len.ensures, c.if-len-eq0.false, length-words_of c.args.bits.now))

pub slice_bounds-write_words-end : goal.slice_bounds-write_words-end
slice_bounds-write_words-end g c =
    let within : (c.len-len.result - 1) / 64 < length c.words-words.result.now =
    rw c.words-words.ensures.words (omega (
      arith,
      c.len-len.ensures,
      c.if-len-eq0.false,
      length-words_of c.args.bits.now,
    )) in
    sym (length-take-le ((c.len-len.result - 1) / 64) c.words-words.result.now (omega arith))

pub returns-clause-styled : goal.returns-clause-styled
returns-clause-styled g c = λ flush ok.
    let bits = c.args.bits.now in
    let last : ℕ = (length bits - 1) / 64 in
    let some : length bits ≢ 0 = λ e. c.if-len-eq0.false (c.len-len.ensures ∙ e) in
    let count : word_count (length bits) ≡ last + 1 = omega (arith, some) in
    let fits : (k : ℕ) → get_or c.words-words.result.now k 0 < 2 ^ 64 = λ k. search rules in
    let first = c.in_ok-write_str.ensures.styled flush refl in
    styled_more g.W.Write.write_str_gives _ _ _ _ _ _ first (c.write_words.ensures first.flush ok)
    (rw (
      c.spell.ensures,
      c.words-words.ensures.words,
      c.len-len.ensures,
      get_or-words_of bits last (omega (
        arith,
        count,
      )),
    ) (sym (binary_text_is bits last count (rw c.words-words.ensures.words at fits))))

pub returns-clause-writes : goal.returns-clause-writes
returns-clause-writes g c = plain_too g.W.Write.write_str_gives _ _ _ _ (returns-clause-styled g c)
