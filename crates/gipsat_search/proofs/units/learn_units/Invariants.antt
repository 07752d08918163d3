use Rattle.std.proofs.Common.{◌≡◌}
use Rattle.gipsat_search.proofs.units.learn_units.Given as goal

abbrev pub invariant-loop-place : goal.invariant-loop-place
invariant-loop-place l = l.kernel ≡ l.fn.kernel
