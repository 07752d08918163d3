use Rattle.std.proofs.Common.{◌≡◌, ◌<◌, ◌≤◌, ◌^◌, ◌∙◌, ℕ, length, get_or, ap, sym, arith, rules}
use Rattle.std.proofs.lemmas.List.{length-take-le}
use Rattle.giputils_bits.specs.Bits.{word_count}
use Rattle.giputils_bits.proofs.Places.{kept-length}
use Rattle.giputils_bits.proofs.Words.{words_of-bits_of}
use Rattle.giputils_bits.proofs.bitvec.BitVec.words.Goals as goal

pub slice_bounds-result-end : goal.slice_bounds-result-end
slice_bounds-result-end g c =
    let within : c.word_len.result ≤ length c.as_slice-words.result.now = rw c.as_slice-words.ensures (omega (arith, kept-length _ _ _ c.self.view_is, c.self.invariant.count)) in
    sym (length-take-le c.word_len.result c.as_slice-words.result.now within)

pub returns-clause-words : goal.returns-clause-words
returns-clause-words g c =
    let fits : (k : ℕ) → get_or c.as_slice-words.result.now k 0 < 2 ^ 64 = λ k. search rules in
    let count : c.word_len.result ≡ word_count c.self.inside.len = c.word_len.ensures.words ∙ ap word_count (sym (kept-length _ _ _ c.self.view_is)) in
    rw (count, c.as_slice-words.ensures, ← c.self.view_is) (words_of-bits_of c.self.inside.len c.self.inside.words c.self.invariant (rw c.as_slice-words.ensures at fits))
