-- Each gate so far is one of the whole circuit.
use Rattle.std.specs.List.{All, Contains}
use Rattle.gipmc_reduce.specs.Cone.{gate_named}
use Rattle.gipmc_reduce.proofs.cone.gates_in.Given as goal

abbrev pub invariant-loop-gate : goal.invariant-loop-gate
invariant-loop-gate l = All (λ x. Contains l.gates (gate_named l.names.names.items x)) l.all.items
