-- One clause more is added.
use Rattle.gipmc_reduce.proofs.Equalities.{HoldBoth-more}
use Rattle.gipmc_reduce.proofs.correspondence.clauses.add_clauses.Goals as goal

pub loop-clause-preserved : goal.loop-clause-preserved
loop-clause-preserved c =
    HoldBoth-more c.args.clauses.now.items c.loop-clause.clauses.items c.add_clause.new.clauses.items c.args.others.now
    c.loop-clause.clause-index c.clause-item.result c.clause-item.result c.loop-clause.invariant c.loop-clause-test.true c.clause-item.is
    (rw (c.deref.ensures.value) at c.in_ok-add_clause.ensures)
