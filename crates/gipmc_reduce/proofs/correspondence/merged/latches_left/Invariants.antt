-- Each latch so far comes of one of the whole circuit.
use Rattle.std.specs.Prelude.{map}
use Rattle.std.specs.List.{All, Contains}
use Rattle.gipmc_reduce.specs.Correspondence.{latch_merged}
use Rattle.gipmc_reduce.proofs.correspondence.merged.latches_left.Given as goal

abbrev pub invariant-loop-latch : goal.invariant-loop-latch
invariant-loop-latch l = All (Contains (map (latch_merged l.merges.literals.items) l.latches)) l.all.items
