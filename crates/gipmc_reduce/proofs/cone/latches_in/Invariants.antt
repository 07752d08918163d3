-- Each latch so far is one of the whole circuit.
use Rattle.std.specs.List.{All, Contains}
use Rattle.gipmc_reduce.specs.Cone.{latch_named}
use Rattle.gipmc_reduce.proofs.cone.latches_in.Given as goal

abbrev pub invariant-loop-latch : goal.invariant-loop-latch
invariant-loop-latch l = All (λ x. Contains l.latches (latch_named l.names.names.items x)) l.all.items
