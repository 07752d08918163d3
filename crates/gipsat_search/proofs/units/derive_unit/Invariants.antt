use Rattle.std.proofs.Common.{◌≡◌}
use Rattle.gipsat_search.proofs.units.derive_unit.Given as goal

abbrev pub invariant-loop-index : goal.invariant-loop-index
invariant-loop-index l = l.kernel ≡ l.fn.kernel
