use Rattle.std.proofs.Common.{◌≡◌, ◌+◌, ◌-◌, ◌*◌, ◌/◌, ◌<◌, ◌≤◌, ◌∙◌, ◌++◌, length, replicate, take, refl, sym, ap, arith}
use Rattle.std.proofs.lemmas.List.{append-nil, take_all}
use Rattle.std.proofs.lemmas.Bool.{false≢true}
use Rattle.giputils_bits.specs.Bits.{word_count}
use Rattle.giputils_bits.proofs.Errors.{on_err}
use Rattle.giputils_bits.proofs.Places.{kept-length}
use Rattle.giputils_bits.proofs.Written.{IsPacked-grown, bits_of-grown}
use Rattle.giputils_bits.proofs.bitvec.BitVec.resize.Goals as goal

pub returns-then-len-self-clause-ok : goal.returns-then-len-self-clause-ok
returns-then-len-self-clause-ok g c =
    let none : c.args.len - length c.args.self.now ≡ 0 = omega (arith, kept-length _ _ _ c.self.view_is) in
    rw (c.truncate.ensures, none) (sym (append-nil (take c.args.len c.args.self.now)))

pub returns-in_err-resize-clause-shorter : goal.returns-in_err-resize-clause-shorter
returns-in_err-resize-clause-shorter g c = λ short. absurd (omega (arith, kept-length _ _ _ c.self.view_is))

pub returns-in_err-resize-clause-full : goal.returns-in_err-resize-clause-full
returns-in_err-resize-clause-full g c =
    let other : (c.args.len - 1) / 64 + 1 ≡ length c.self.inside.words → ⊥ = λ e. false≢true (c.in_err-resize.ensures.same e) in
    let more : word_count (length c.args.self.now) < word_count c.args.len = omega (arith, other, c.self.invariant.count, kept-length _ _ _ c.self.view_is) in
    on_err _ more

pub invariant_of-self-2 : goal.invariant_of-self-2
invariant_of-self-2 g c =
    let n = c.self.inside.len in
    let m = c.args.len in
    let room : n < 64 * ((m - 1) / 64 + 1) = omega arith in
    let long : length c.self.inside.words ≤ (m - 1) / 64 + 1 = omega (arith, c.self.invariant.count) in
    rw (c.put-2.ensures, c.low_mask.ensures, c.as_slice-2.ensures, c.put.ensures, c.as_slice.ensures, c.in_ok-resize.ensures.ok, c.filled_word-word.ensures)
    (IsPacked-grown n ((m - 1) / 64 + 1) c.self.inside.words c.args.val room long c.self.invariant m refl (omega arith))

pub returns-clause-ok : goal.returns-clause-ok
returns-clause-ok g c =
    let n = c.self.inside.len in
    let m = c.args.len in
    let now = c.args.self.now in
    let room : n < 64 * ((m - 1) / 64 + 1) = omega arith in
    let long : length c.self.inside.words ≤ (m - 1) / 64 + 1 = omega (arith, c.self.invariant.count) in
    rw (c.put-2.ensures, c.low_mask.ensures, c.as_slice-2.ensures, c.put.ensures, c.as_slice.ensures, c.in_ok-resize.ensures.ok, c.filled_word-word.ensures)
    (bits_of-grown n ((m - 1) / 64 + 1) c.self.inside.words c.args.val room long c.self.invariant m refl (omega arith)
    ∙ ap (λ bs. bs ++ replicate (m - n) c.args.val) (c.self.view_is ∙ sym (take_all m now (omega (arith, kept-length _ _ _ c.self.view_is))))
    ∙ ap (λ k. take m now ++ replicate (m - k) c.args.val) (kept-length _ _ _ c.self.view_is))
