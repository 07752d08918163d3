-- Each run so far was refused memory.
use Rattle.std.specs.Fn.{FnReturnsAt}
use Rattle.giputils_refusing.specs.InTurn.{at_request, AreRefused}
use Rattle.giputils_refusing.proofs.in_turn.refuse_in_turn.Given as goal

abbrev pub invariant-loop-n : goal.invariant-loop-n
invariant-loop-n g l = AreRefused (FnReturnsAt g.F.Fn l.run) l.inner (at_request l.later) l.n
