use Rattle.std.proofs.Common.{◌≡◌, ◌+◌, ◌-◌, ◌/◌, ◌∙◌, length, replicate, refl, sym, ap, arith}
use Rattle.std.proofs.lemmas.List.{length-replicate}
use Rattle.giputils_bits.specs.Bits.{words_of}
use Rattle.giputils_bits.proofs.Places.{kept-length}
use Rattle.giputils_bits.proofs.Patterns.{empty_is_replicate, words_of_replicate}
use Rattle.giputils_bits.proofs.Words.{IsPacked-from_words, bits_of-from_words}
use Rattle.giputils_bits.proofs.bitvec.BitVec.fill.Goals as goal

pub returns-then-self-eq0 : goal.returns-then-self-eq0
returns-then-self-eq0 g c = empty_is_replicate c.args.self.now c.args.val (sym (kept-length _ _ _ c.self.view_is) ∙ c.if-self-eq0.true)

pub invariant_of-self : goal.invariant_of-self
invariant_of-self g c =
    let n = c.self.inside.len in
    let count : length c.self.inside.words ≡ (n - 1) / 64 + 1 = omega (arith, c.self.invariant.count) in
    let words : c.put.new.self ≡ words_of (replicate n c.args.val) =
    rw (c.put.ensures, c.fill.ensures, c.filled_word.ensures, c.filled_word-2.ensures, count) (words_of_replicate n ((n - 1) / 64) c.args.val (omega arith) refl) in
    IsPacked-from_words n c.put.new.self (replicate n c.args.val) (length-replicate n c.args.val) (omega arith) words

pub returns : goal.returns
returns g c =
    let n = c.self.inside.len in
    let count : length c.self.inside.words ≡ (n - 1) / 64 + 1 = omega (arith, c.self.invariant.count) in
    let words : c.put.new.self ≡ words_of (replicate n c.args.val) =
    rw (c.put.ensures, c.fill.ensures, c.filled_word.ensures, c.filled_word-2.ensures, count) (words_of_replicate n ((n - 1) / 64) c.args.val (omega arith) refl) in
    bits_of-from_words n c.put.new.self (replicate n c.args.val) (length-replicate n c.args.val) words
    ∙ ap (λ k. replicate k c.args.val) (kept-length _ _ _ c.self.view_is)
