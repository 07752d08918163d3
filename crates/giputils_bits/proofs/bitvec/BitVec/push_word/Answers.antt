use Rattle.std.proofs.Common.{ap, length, arith, refl}
use Rattle.giputils_bits.proofs.Appended.{IsPacked-AppendsWord, bits_of-AppendsWord}
use Rattle.giputils_bits.proofs.Errors.{memory_from}
use Rattle.giputils_bits.proofs.Places.{kept-length}
use Rattle.giputils_bits.proofs.bitvec.BitVec.push_word.Goals as goal

pub returns-then-self-clause-inline : goal.returns-then-self-clause-inline
returns-then-self-clause-inline g c = λ none. absurd (omega (arith, kept-length _ _ _ c.self.view_is, ap length none))

pub returns-then-self-clause-too_long : goal.returns-then-self-clause-too_long
returns-then-self-clause-too_long g c = (λ _. omega (arith, kept-length _ _ _ c.self.view_is), λ _. refl)

pub returns-in_err-append_word-clause-inline : goal.returns-in_err-append_word-clause-inline
returns-in_err-append_word-clause-inline g c = λ none. let never = c.in_err-append_word.ensures.inline (omega (arith, kept-length _ _ _ c.self.view_is, ap length none)) in cc

pub returns-in_err-append_word-clause-too_long : goal.returns-in_err-append_word-clause-too_long
returns-in_err-append_word-clause-too_long g c =
    let refused = memory_from _ c.from_residual.ensures in
    (λ e. cc, λ e. absurd (omega (arith, kept-length _ _ _ c.self.view_is)))

pub invariant_of-self-2 : goal.invariant_of-self-2
invariant_of-self-2 g c = IsPacked-AppendsWord _ _ _ _ c.in_ok-append_word.ensures.ok

pub returns-clause-ok : goal.returns-clause-ok
returns-clause-ok g c = rw (← c.self.view_is) (bits_of-AppendsWord _ _ _ c.args.word (omega arith) c.in_ok-append_word.ensures.ok)

pub returns-clause-too_long : goal.returns-clause-too_long
returns-clause-too_long g c = (λ e. absurd (cc), λ e. absurd (omega (arith, kept-length _ _ _ c.self.view_is)))
