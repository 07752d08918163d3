-- The formula stays.
use Rattle.std.proofs.Common.{◌≡◌}
use Rattle.gipsat_drat.proofs.hints.resolve_backwards.Given as goal

abbrev pub invariant-loop-place : goal.invariant-loop-place
invariant-loop-place l = l.kernel ≡ l.initial.kernel
