-- The first span lies within the literals, and so do the others.
use Rattle.std.proofs.Common.{length, refl, subst, suc, zero}
use Rattle.gipsat_cnf.specs.Layout.{AreSpans}
use Rattle.gipsat_cnf.proofs.cnf.iter.ClauseIterIterator.next.Goals as goal

pub clause_at-requires-clause-start : goal.clause_at-requires-clause-start
clause_at-requires-clause-start c =
    (subst (AreSpans (length c.self.inside.literals.now)) c.in_ok-span.ensures.cases.0 c.self.invariant zero c.in_ok-span.span.now refl).0

pub clause_at-requires-clause-end : goal.clause_at-requires-clause-end
clause_at-requires-clause-end c =
    (subst (AreSpans (length c.self.inside.literals.now)) c.in_ok-span.ensures.cases.0 c.self.invariant zero c.in_ok-span.span.now refl).1

pub invariant_of-self : goal.invariant_of-self
invariant_of-self c = λ k s at.
    subst (AreSpans (length c.self.inside.literals.now)) c.in_ok-span.ensures.cases.0 c.self.invariant (suc k) s at
