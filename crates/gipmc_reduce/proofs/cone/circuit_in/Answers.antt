-- The gates and latches are of the whole circuit.
use Rattle.gipmc_reduce.proofs.cone.circuit_in.Goals as goal

pub returns-clause-gates : goal.returns-clause-gates
returns-clause-gates c = rw (c.deref-4.ensures.value) at c.in_ok-gates.ensures

pub returns-clause-latches : goal.returns-clause-latches
returns-clause-latches c = rw (c.deref-3.ensures.value) at c.in_ok-latches.ensures
