use Rattle.std.proofs.Common.{◌≡◌}
use Rattle.gipsat_search.proofs.vivify.shorten_each.Given as goal

abbrev pub invariant-loop-id : goal.invariant-loop-id
invariant-loop-id l = l.kernel ≡ l.fn.kernel
