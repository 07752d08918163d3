use Rattle.std.proofs.Common.{◌≡◌}
use Rattle.gipsat_search.proofs.eliminate.eliminate_each.Given as goal

abbrev pub invariant-loop : goal.invariant-loop
invariant-loop l = l.kernel ≡ l.fn.kernel
