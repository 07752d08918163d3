use Rattle.std.proofs.Common.{◌+◌, ◌^◌, length, refl, arith, inl, inr}
use Rattle.std.proofs.lemmas.Bool.{cases_lt}
use Rattle.giputils_bits.specs.Bits.{word_count}
use Rattle.giputils_bits.proofs.Errors.{memory_from, not_too_long}
use Rattle.giputils_bits.proofs.Places.{kept-length}
use Rattle.giputils_bits.proofs.bitvec.BitVec.reserve.Goals as goal

pub returns-in_default-clause-inline : goal.returns-in_default-clause-inline
returns-in_default-clause-inline g c = λ short. absurd (c.in_default.ensures (omega (arith, kept-length _ _ _ c.self.view_is)))

pub returns-in_default-clause-too_long : goal.returns-in_default-clause-too_long
returns-in_default-clause-too_long g c = (
  λ e. elim (cases_lt (c.self.inside.len + c.args.additional) (2 ^ 64)) [
    | inl l ↦ absurd (c.in_default.ensures l)
    | inr m ↦ omega (arith, kept-length _ _ _ c.self.view_is)
  ],
  λ e. refl,
)

pub returns-in_err-reserve-clause-inline : goal.returns-in_err-reserve-clause-inline
returns-in_err-reserve-clause-inline g c = λ short.
    let never = c.in_err-reserve.ensures.same (omega (arith, c.word_count.ensures, c.in-Some.ensures.1, kept-length _ _ _ c.self.view_is, c.self.invariant.count)) in cc

pub returns-in_err-reserve-clause-memory : goal.returns-in_err-reserve-clause-memory
returns-in_err-reserve-clause-memory g c = λ e.
    elim (cases_lt (word_count (length c.args.self.now)) (word_count (length c.args.self.now + c.args.additional))) [
      | inl l ↦ l
      | inr m ↦
          let never = c.in_err-reserve.ensures.same (omega (arith, m, c.word_count.ensures, c.in-Some.ensures.1, kept-length _ _ _ c.self.view_is, c.self.invariant.count)) in
          absurd (cc)
    ]

pub returns-in_err-reserve-clause-too_long : goal.returns-in_err-reserve-clause-too_long
returns-in_err-reserve-clause-too_long g c = (
  λ e. absurd (not_too_long _ (memory_from _ c.from_residual.ensures) e),
  λ e. absurd (omega (arith, c.in-Some.ensures.0, kept-length _ _ _ c.self.view_is)),
)

pub returns-clause-too_long : goal.returns-clause-too_long
returns-clause-too_long g c = (λ e. absurd (cc), λ e. absurd (omega (arith, c.in-Some.ensures.0, kept-length _ _ _ c.self.view_is)))
