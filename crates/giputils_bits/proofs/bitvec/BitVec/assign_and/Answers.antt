use Rattle.std.proofs.Common.{◌≡◌, ◌∙◌, sym, ap, arith}
use Rattle.giputils_bits.specs.Prelude.{and_of, bits_of, negated_if}
use Rattle.giputils_bits.proofs.Conjoined.{none_in_common, IsPacked-conjoined, bits_of-conjoined}
use Rattle.giputils_bits.proofs.Places.{kept-length}
use Rattle.giputils_bits.proofs.Rewritten.{same_count}
use Rattle.giputils_bits.proofs.bitvec.BitVec.assign_and.Goals as goal

pub returns-then-self-eq0 : goal.returns-then-self-eq0
returns-then-self-eq0 g c =
    none_in_common c.args.self.now c.args.a.now c.args.b.now c.args.not_a c.args.not_b (sym (kept-length _ _ _ c.self.view_is) ∙ c.if-self-eq0.true)
    c.requires.first c.requires.second

pub conjoin-requires-clause-a : goal.conjoin-requires-clause-a
conjoin-requires-clause-a g c = rw c.as_slice.ensures (same_count _ _ _ _ _ _ c.self.view_is c.a.view_is c.self.invariant c.a.invariant c.requires.first)

pub conjoin-requires-clause-b : goal.conjoin-requires-clause-b
conjoin-requires-clause-b g c = rw c.as_slice-2.ensures (same_count _ _ _ _ _ _ c.self.view_is c.b.view_is c.self.invariant c.b.invariant c.requires.second)

pub invariant_of-self : goal.invariant_of-self
invariant_of-self g c =
    let conjoined = rw (c.as_slice.ensures, c.as_slice-2.ensures, c.filled_word-mask_a.ensures, c.filled_word-mask_b.ensures) at c.conjoin.ensures in
    rw (c.put.ensures, c.low_mask.ensures, c.as_slice-3.ensures)
    (IsPacked-conjoined c.self.inside.len c.self.inside.words c.a.inside.words c.b.inside.words c.conjoin.new.self c.args.not_a c.args.not_b (omega arith) c.self.invariant conjoined)

pub returns : goal.returns
returns g c =
    let n = c.self.inside.len in
    let a_long : c.a.inside.len ≡ n = kept-length _ _ _ c.a.view_is ∙ sym c.requires.first ∙ sym (kept-length _ _ _ c.self.view_is) in
    let b_long : c.b.inside.len ≡ n = kept-length _ _ _ c.b.view_is ∙ sym c.requires.second ∙ sym (kept-length _ _ _ c.self.view_is) in
    let a : bits_of n c.a.inside.words ≡ c.args.a.now = ap (λ k. bits_of k c.a.inside.words) (sym a_long) ∙ c.a.view_is in
    let b : bits_of n c.b.inside.words ≡ c.args.b.now = ap (λ k. bits_of k c.b.inside.words) (sym b_long) ∙ c.b.view_is in
    let conjoined = rw (c.as_slice.ensures, c.as_slice-2.ensures, c.filled_word-mask_a.ensures, c.filled_word-mask_b.ensures) at c.conjoin.ensures in
    rw (c.put.ensures, c.low_mask.ensures, c.as_slice-3.ensures)
    (bits_of-conjoined n c.self.inside.words c.a.inside.words c.b.inside.words c.conjoin.new.self c.args.not_a c.args.not_b (omega arith) c.self.invariant conjoined
    ∙ ap (λ xs. and_of (negated_if c.args.not_a xs) (negated_if c.args.not_b (bits_of n c.b.inside.words))) a
    ∙ ap (λ ys. and_of (negated_if c.args.not_a c.args.a.now) (negated_if c.args.not_b ys)) b)
