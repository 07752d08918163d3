-- The circuit saves, so it fails by each lasso, and where it is safe the circuit is live.
use Rattle.std.proofs.Common.{◌++◌, rules}
use Rattle.gipmc_reduce.proofs.Saved.{FailsByLassos-saver, IsLive-saved}
use Rattle.gipmc_reduce.proofs.liveness_to_safety.to_safety.Goals as goal

pub returns-in-Some-clause-saver : goal.returns-in-Some-clause-saver
returns-in-Some-clause-saver c = search rules

pub returns-in-Some-clause-fails : goal.returns-in-Some-clause-fails
returns-in-Some-clause-fails c =
    FailsByLassos-saver c.args.netlist.now.circuit (c.args.fairness.now ++ c.args.justice.now) c.in-Some.made.circuit
    c.in_ok-circuit.bad (returns-in-Some-clause-saver c)

pub returns-in-Some-clause-live : goal.returns-in-Some-clause-live
returns-in-Some-clause-live c =
    IsLive-saved c.args.netlist.now.circuit c.in-Some.made.circuit c.args.fairness.now c.args.justice.now c.in_ok-circuit.bad
    (returns-in-Some-clause-fails c)
