-- What the run said is the branch that was taken.
use Rattle.std.proofs.Common.{below_more}
use Rattle.giputils_refusing.proofs.in_turn.refuse_in_turn.Goals as goal

pub returns-in-true-true-clause-err : goal.returns-in-true-true-clause-err
returns-in-true-true-clause-err g c = rw (c.in-true-true.is-0, c.at_request.ensures) at c.make_run-served.ensures

pub returns-in-true-false-clause-served : goal.returns-in-true-false-clause-served
returns-in-true-false-clause-served g c = rw (c.in-true-false.is-0, c.at_request.ensures) at c.make_run-served.ensures

pub returns-in-false-false-clause-err : goal.returns-in-false-false-clause-err
returns-in-false-false-clause-err g c = rw (c.in-false-false.is-0, c.at_request.ensures) at c.make_run-served.ensures

pub loop-n-preserved : goal.loop-n-preserved
loop-n-preserved g c =
    let here = rw (c.in-false-true.is-0, c.at_request.ensures) at c.make_run-served.ensures in
    below_more _ c.loop-n.n c.loop-n.invariant here
