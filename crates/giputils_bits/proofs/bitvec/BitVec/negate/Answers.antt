use Rattle.std.proofs.Common.{◌<◌, ◌^◌, ◌∙◌, ℕ, get_or, ap, sym, arith, rules}
use Rattle.giputils_bits.specs.Logic.{not_of}
use Rattle.giputils_bits.proofs.Places.{kept-length}
use Rattle.giputils_bits.proofs.Logic.{not_of_none}
use Rattle.giputils_bits.proofs.Rewritten.{IsPacked-negated, bits_of-negated}
use Rattle.giputils_bits.proofs.bitvec.BitVec.negate.Goals as goal

pub returns-then-self-eq0 : goal.returns-then-self-eq0
returns-then-self-eq0 g c = sym (not_of_none c.args.self.now (sym (kept-length _ _ _ c.self.view_is) ∙ c.if-self-eq0.true))

pub invariant_of-self : goal.invariant_of-self
invariant_of-self g c =
    let fits : (k : ℕ) → get_or c.as_slice.result.now k 0 < 2 ^ 64 = λ k. search rules in
    rw (c.put.ensures, c.low_mask-digits.ensures, c.as_slice.ensures)
    (IsPacked-negated c.self.inside.len c.self.inside.words c.negate.new.self (omega arith) c.self.invariant (rw c.as_slice.ensures at fits) c.negate.ensures)

pub returns : goal.returns
returns g c =
    let fits : (k : ℕ) → get_or c.as_slice.result.now k 0 < 2 ^ 64 = λ k. search rules in
    rw (c.put.ensures, c.low_mask-digits.ensures, c.as_slice.ensures)
    (bits_of-negated c.self.inside.len c.self.inside.words c.negate.new.self (omega arith) c.self.invariant (rw c.as_slice.ensures at fits) c.negate.ensures ∙ ap not_of c.self.view_is)
