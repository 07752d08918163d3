use Rattle.std.proofs.Common.{◌<◌, ◌^◌, ◌∙◌, ℕ, get_or, ap, sym, arith, rules}
use Rattle.giputils_bits.specs.Logic.{not_of}
use Rattle.giputils_bits.proofs.Logic.{not_of_none}
use Rattle.giputils_bits.proofs.Places.{kept-length}
use Rattle.giputils_bits.proofs.Rewritten.{IsPacked-negated, bits_of-negated}
use Rattle.giputils_bits.proofs.bitvec.BitVec.not.Goals as goal

pub returns-then-self-eq0-clause-ok : goal.returns-then-self-eq0-clause-ok
returns-then-self-eq0-clause-ok g c =
    rw (not_of_none c.args.self.now (sym (kept-length _ _ _ c.self.view_is) ∙ c.if-self-eq0.true)) c.clone.ensures.ok

pub returns-in_err-words-clause-inline : goal.returns-in_err-words-clause-inline
returns-in_err-words-clause-inline g c = λ short. let never = c.in_err-words.ensures.inline (omega (arith, kept-length _ _ _ c.self.view_is, c.self.invariant.count)) in cc

pub invariant_of-result : goal.invariant_of-result
invariant_of-result g c =
    let fits : (k : ℕ) → get_or c.as_slice.result.now k 0 < 2 ^ 64 = λ k. search rules in
    rw (c.put.ensures, c.low_mask-digits.ensures, c.as_slice.ensures)
    (IsPacked-negated c.self.inside.len c.self.inside.words c.in_ok-words.words (omega arith) c.self.invariant (rw c.as_slice.ensures at fits) c.in_ok-words.ensures.ok)

pub returns-clause-ok : goal.returns-clause-ok
returns-clause-ok g c =
    let fits : (k : ℕ) → get_or c.as_slice.result.now k 0 < 2 ^ 64 = λ k. search rules in
    rw (c.put.ensures, c.low_mask-digits.ensures, c.as_slice.ensures)
    (bits_of-negated c.self.inside.len c.self.inside.words c.in_ok-words.words (omega arith) c.self.invariant (rw c.as_slice.ensures at fits) c.in_ok-words.ensures.ok
    ∙ ap not_of c.self.view_is)
