-- Those so far.
use Rattle.std.proofs.Common.{◌+◌, map}
use Rattle.gipmc_reduce.specs.Saved.{Adds, shadow_latches, shadows}
use Rattle.gipmc_reduce.proofs.liveness_to_safety.add_shadows.Given as goal

abbrev pub invariant-loop-place : goal.invariant-loop-place
invariant-loop-place l =
    Adds l.fn.circuit l.circuit (shadow_latches l.variable l.before l.place)
    (shadows (l.n + 1) l.variable l.before (map (λ k. k.variable) l.latches) l.place)
