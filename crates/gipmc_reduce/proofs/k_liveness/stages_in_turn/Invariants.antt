-- The stages so far are the literals so far.
use Rattle.std.proofs.Common.{◌≡◌}
use Rattle.gipmc_reduce.specs.Turns.{turns}
use Rattle.gipmc_reduce.proofs.k_liveness.stages_in_turn.Given as goal

abbrev pub invariant-loop-place : goal.invariant-loop-place
invariant-loop-place l = l.stages.items ≡ turns l.literals l.place
