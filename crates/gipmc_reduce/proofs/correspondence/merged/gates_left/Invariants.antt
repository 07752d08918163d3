-- Each gate so far comes of one of the whole circuit.
use Rattle.std.specs.Prelude.{map}
use Rattle.std.specs.List.{All, Contains}
use Rattle.gipmc_reduce.specs.Correspondence.{gate_merged}
use Rattle.gipmc_reduce.proofs.correspondence.merged.gates_left.Given as goal

abbrev pub invariant-loop-gate : goal.invariant-loop-gate
invariant-loop-gate l = All (Contains (map (gate_merged l.merges.literals.items) l.gates)) l.all.items
