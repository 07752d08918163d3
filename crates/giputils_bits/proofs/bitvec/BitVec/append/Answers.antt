use Rattle.std.proofs.Common.{◌≡◌, ◌<◌, ◌+◌, ◌^◌, ◌++◌, ◌∙◌, length, refl, sym, ap, Err, arith, inl, inr}
use Rattle.std.proofs.lemmas.List.{append-nil}
use Rattle.std.proofs.lemmas.Bool.{cases_lt}
use Rattle.giputils_bits.specs.Bits.{word_count}
use Rattle.giputils_bits.proofs.Errors.{error_from, not_too_long}
use Rattle.giputils_bits.proofs.Logic.{empty_is_none}
use Rattle.giputils_bits.proofs.Overlaid.{lengthened, lengthened_by, IsPacked-overlaid, bits_of-overlaid}
use Rattle.giputils_bits.proofs.Places.{kept-length}
use Rattle.giputils_bits.proofs.bitvec.BitVec.append.Goals as goal

pub returns-in_default-clause-inline : goal.returns-in_default-clause-inline
returns-in_default-clause-inline g c = λ short. absurd (c.in_default.ensures (omega (arith, kept-length _ _ _ c.self.view_is, kept-length _ _ _ c.other.view_is)))

pub returns-in_default-clause-too_long : goal.returns-in_default-clause-too_long
returns-in_default-clause-too_long g c = (
  λ e. elim (cases_lt (c.self.inside.len + c.other.inside.len) (2 ^ 64)) [
    | inl l ↦ absurd (c.in_default.ensures l)
    | inr m ↦ omega (arith, kept-length _ _ _ c.self.view_is, kept-length _ _ _ c.other.view_is)
  ],
  λ e. refl,
)

pub returns-then-len-start-clause-ok : goal.returns-then-len-start-clause-ok
returns-then-len-start-clause-ok g c =
    let none : length c.args.other.now ≡ 0 = omega (arith, c.in-Some.ensures.1, kept-length _ _ _ c.other.view_is) in
    sym (append-nil c.args.self.now) ∙ ap (λ bs. c.args.self.now ++ bs) (sym (empty_is_none c.args.other.now none))

pub returns-then-len-start-clause-too_long : goal.returns-then-len-start-clause-too_long
returns-then-len-start-clause-too_long g c =
    (λ e. absurd (cc), λ e. absurd (omega (arith, c.in-Some.ensures.0, kept-length _ _ _ c.self.view_is, kept-length _ _ _ c.other.view_is)))

pub returns-in_err-resize-clause-inline : goal.returns-in_err-resize-clause-inline
returns-in_err-resize-clause-inline g c = λ short.
    let never = c.in_err-resize.ensures.inline (omega (arith, c.in-Some.ensures.1, kept-length _ _ _ c.self.view_is, kept-length _ _ _ c.other.view_is)) in cc

pub returns-in_err-resize-clause-too_long : goal.returns-in_err-resize-clause-too_long
returns-in_err-resize-clause-too_long g c =
    let refused = error_from _ _ c.from_residual.ensures ∙ ap (λ error. Err error) c.in_err-resize.ensures.memory in
    (λ e. absurd (not_too_long _ refused e), λ e. absurd (omega (arith, c.in-Some.ensures.0, kept-length _ _ _ c.self.view_is, kept-length _ _ _ c.other.view_is)))

pub returns-in_err-resize-clause-memory : goal.returns-in_err-resize-clause-memory
returns-in_err-resize-clause-memory g c = λ e.
    let more : word_count (length c.args.self.now) < word_count c.in-Some.len = c.in_err-resize.ensures.full in
    omega (arith, more, c.in-Some.ensures.1, kept-length _ _ _ c.self.view_is, kept-length _ _ _ c.other.view_is)

pub overlay-requires : goal.overlay-requires
overlay-requires g c =
    let more = lengthened _ _ _ _ (kept-length _ _ _ c.self.view_is) c.in-Some.ensures.1 in
    let sum = lengthened_by _ _ _ _ _ (c.self-2.view_is ∙ c.in_ok-resize.ensures.ok ∙ more) (kept-length _ _ _ c.self.view_is) in
    rw c.as_slice.ensures (omega (arith, sum, c.self-2.invariant.count, c.other.invariant.count))

pub invariant_of-self : goal.invariant_of-self
invariant_of-self g c =
    let long = kept-length _ _ _ c.self.view_is in
    let now = c.self-2.view_is ∙ c.in_ok-resize.ensures.ok ∙ lengthened _ _ _ _ long c.in-Some.ensures.1 in
    IsPacked-overlaid c.self.inside.len c.other.inside.len c.self-2.inside.len c.self-2.inside.words c.other.inside.words c.overlay.new.self
    c.args.self.now c.args.other.now (lengthened_by _ _ _ _ _ now long) c.self-2.invariant c.other.invariant now c.other.view_is (sym long) (rw c.as_slice.ensures at c.overlay.ensures)

pub returns-clause-ok : goal.returns-clause-ok
returns-clause-ok g c =
    let long = kept-length _ _ _ c.self.view_is in
    let now = c.self-2.view_is ∙ c.in_ok-resize.ensures.ok ∙ lengthened _ _ _ _ long c.in-Some.ensures.1 in
    bits_of-overlaid c.self.inside.len c.other.inside.len c.self-2.inside.len c.self-2.inside.words c.other.inside.words c.overlay.new.self
    c.args.self.now c.args.other.now (lengthened_by _ _ _ _ _ now long) c.self-2.invariant c.other.invariant now c.other.view_is (sym long) (rw c.as_slice.ensures at c.overlay.ensures)

pub returns-clause-too_long : goal.returns-clause-too_long
returns-clause-too_long g c =
    (λ e. absurd (cc), λ e. absurd (omega (arith, c.in-Some.ensures.0, kept-length _ _ _ c.self.view_is, kept-length _ _ _ c.other.view_is)))
