use Rattle.std.proofs.Common.{◌≡◌, ◌≢◌, ℕ, ◌+◌, ◌-◌, ◌/◌, ◌^◌, ◌<◌, ◌∙◌, length, get_or, replicate, false, sym, subst, arith, rules, refl}
use Rattle.std.specs.Fmt.{HasWrittenStyled}
use Rattle.std.proofs.lemmas.List.{length-take-le}
use Rattle.giputils_bits.specs.Bits.{word_count}
use Rattle.giputils_bits.proofs.Text.{hex_text_of_zeros, hex_text_is}
use Rattle.giputils_bits.proofs.Words.{length-words_of, get_or-words_of}
use Rattle.giputils_bits.proofs.Writes.{styled_more, plain_too}
use Rattle.giputils_bits.proofs.bitvec.text.write_hex.Goals as goal

pub returns-then-is_zero-clause-styled : goal.returns-then-is_zero-clause-styled
returns-then-is_zero-clause-styled g c = λ flush ok.
    let some : length c.args.bits.now ≢ 0 = λ e. c.if-len-eq0.false (c.len-len.ensures ∙ e) in
    subst (λ text. HasWrittenStyled g.W.Write.write_str_gives c.args.f.now text c.write_str-then-is_zero.new.self)
    (sym (hex_text_of_zeros c.args.upper c.args.bits.now (omega (arith, some)) (c.is_zero.ensures.0 c.if-is_zero.true)))
    (c.write_str-then-is_zero.ensures.styled flush ok)

pub returns-then-is_zero-clause-writes : goal.returns-then-is_zero-clause-writes
returns-then-is_zero-clause-writes g c = plain_too g.W.Write.write_str_gives _ _ _ _ (returns-then-is_zero-clause-styled g c)

pub bounds-words-last : goal.bounds-words-last
bounds-words-last g c = rw c.words-words.ensures.words (omega (arith, c.len-len.ensures, c.if-len-eq0.false, length-words_of c.args.bits.now))

pub bounds-words-last-2 : goal.bounds-words-last-2
bounds-words-last-2 g c = rw c.words-words.ensures.words (omega (arith, c.len-len.ensures, c.if-len-eq0.false, length-words_of c.args.bits.now))

pub slice_bounds-write_words-end : goal.slice_bounds-write_words-end
slice_bounds-write_words-end g c =
    let within : (c.len-len.result - 1) / 64 < length c.words-words.result.now =
    rw c.words-words.ensures.words (omega (
      arith,
      c.len-len.ensures,
      c.if-len-eq0.false,
      length-words_of c.args.bits.now,
    )) in
    sym (length-take-le ((c.len-len.result - 1) / 64) c.words-words.result.now (omega arith))

pub returns-clause-styled : goal.returns-clause-styled
returns-clause-styled g c = λ flush ok.
    let bits = c.args.bits.now in
    let last : ℕ = (length bits - 1) / 64 in
    let some : length bits ≢ 0 = λ e. c.if-len-eq0.false (c.len-len.ensures ∙ e) in
    let count : word_count (length bits) ≡ last + 1 = omega (arith, some) in
    let fits : (k : ℕ) → get_or c.words-words.result.now k 0 < 2 ^ 64 = λ k. search rules in
    let not_zero : bits ≢ replicate (length bits) false = λ e. absurd (let yes = c.is_zero.ensures.1 e in let no = c.if-is_zero.false in cc) in
    let first = c.in_ok-write_str.ensures.styled flush refl in
    let second = c.in_ok-write_str-2.ensures.styled first.flush refl in
    styled_more g.W.Write.write_str_gives _ _ _ _ _ _ first (styled_more g.W.Write.write_str_gives _ _ _ _ _ _ second (c.write_words.ensures second.flush ok) refl)
    (rw (c.spell.ensures, c.hex_len.ensures.len, c.words-words.ensures.words, c.len-len.ensures, get_or-words_of bits last (omega (arith, count)))
    (sym (hex_text_is c.args.upper bits last count not_zero (rw c.words-words.ensures.words at fits))))

pub returns-clause-writes : goal.returns-clause-writes
returns-clause-writes g c = plain_too g.W.Write.write_str_gives _ _ _ _ (returns-clause-styled g c)
