-- A core of the negations implies the clause.
use Rattle.gipmc_circuits.proofs.Certified.{implied_by_core}
use Rattle.gipmc_circuits.proofs.certificate.is_implied.Goals as goal

pub returns-in-Unsat-clause-right : goal.returns-in-Unsat-clause-right
returns-in-Unsat-clause-right g c sure =
    implied_by_core _ c.args.offset c.args.clause.now c.in_ok-literals.literals.items _ c.in_ok-literals.ensures
    (rw (c.in-Unsat.is, c.deref-2.ensures.value) at c.in_ok-guess_within.ensures.right)

pub returns-in-Unsat-2-clause-right : goal.returns-in-Unsat-2-clause-right
returns-in-Unsat-2-clause-right g c sure =
    implied_by_core _ c.args.offset c.args.clause.now c.in_ok-literals.literals.items _ c.in_ok-literals.ensures
    (rw (c.in-Unsat-2.is, c.deref-3.ensures.value, c.in_ok-guess_within.ensures.formula) at c.in_ok-solve_limited.ensures.right)
