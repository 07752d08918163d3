-- What is asked is the core without the literal.
use Rattle.std.proofs.Common.{◌≡◌, IsTrue, inl, inr, refl, rules, subst}
use Rattle.std.specs.List.{remove}
use Rattle.gipsat_cnf.specs.Prelude.{assignment_in, makes_true}
use Rattle.gipsat_cnf.proofs.MakesTrue.{unsatisfied-under}
use Rattle.gipsat_uses.proofs.minimal_core.without.Goals as goal

pub returns-in-Sat-clause-next : goal.returns-in-Sat-clause-next
returns-in-Sat-clause-next g c =
    let same : c.remove.new.self.items ≡ remove c.args.core.items c.args.place = search rules in
    let (sat, all) = rw (c.in-Sat.is, c.deref-2.ensures.value) at c.in_ok-solve_limited.ensures.right in
    inl (refl, (assignment_in c.in-Sat.field-0.items, sat, subst (λ ls. IsTrue (makes_true (assignment_in c.in-Sat.field-0.items) ls)) same all))

pub returns-in-Unsat-clause-next : goal.returns-in-Unsat-clause-next
returns-in-Unsat-clause-next g c =
    let same : c.remove.new.self.items ≡ remove c.args.core.items c.args.place = search rules in
    let core = rw (c.in-Unsat.is, c.deref-2.ensures.value) at c.in_ok-solve_limited.ensures.right in
    inr (same, λ sat. unsatisfied-under (g.S.ClauseSink.formula c.args.solver.now) c.remove.new.self.items c.in-Unsat.field-0.items core sat)
