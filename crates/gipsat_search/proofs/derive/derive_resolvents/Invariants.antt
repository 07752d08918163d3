use Rattle.std.proofs.Common.{◌≡◌}
use Rattle.gipsat_search.proofs.derive.derive_resolvents.Given as goal

abbrev pub invariant-loop-resolution : goal.invariant-loop-resolution
invariant-loop-resolution l = l.kernel ≡ l.fn.kernel
