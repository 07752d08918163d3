-- The three questions are answered.
use Rattle.std.proofs.Common.{refl}
use Rattle.gipmc_circuits.proofs.Certified.{safe_by_invariant}
use Rattle.gipmc_circuits.proofs.certificate.judge.Goals as goal

pub returns-in-Some-true-clause-safe : goal.returns-in-Some-true-clause-safe
returns-in-Some-true-clause-safe g c sure =
    safe_by_invariant c.args.circuit.now c.args.invariant.now c.args.bad (rw (c.in_default.is) at c.in_ok-doubt.ensures.initiated)
    (rw (c.in_default.is) at c.in_ok-doubt.ensures.inductive)
    ((rw (c.in-Some-true.is, c.in-Some-true.field-0-test) at c.in_ok-is_excluded.ensures) refl)

pub returns-in-Some-true-clause-initiated : goal.returns-in-Some-true-clause-initiated
returns-in-Some-true-clause-initiated g c sure = rw (c.in_default.is) at c.in_ok-doubt.ensures.initiated

pub returns-in-Some-true-clause-inductive : goal.returns-in-Some-true-clause-inductive
returns-in-Some-true-clause-inductive g c sure = rw (c.in_default.is) at c.in_ok-doubt.ensures.inductive

pub returns-in-Some-true-clause-excluded : goal.returns-in-Some-true-clause-excluded
returns-in-Some-true-clause-excluded g c sure =
    (rw (c.in-Some-true.is, c.in-Some-true.field-0-test) at c.in_ok-is_excluded.ensures) refl
