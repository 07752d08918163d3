use Rattle.gipsat_cnf.specs.Prelude.{assignment_in, is_true}
use Rattle.gipsat_cnf.proofs.Tests.{all_fail}
use Rattle.gipsat_cnf.proofs.values.satisfies_clause.Goals as goal

pub returns : goal.returns
returns c = all_fail (is_true (assignment_in c.args.values.now)) c.args.clause.now c.loop-l.l-index c.loop-l-test.false c.loop-l.invariant
