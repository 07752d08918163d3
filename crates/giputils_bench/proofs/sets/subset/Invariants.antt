use Rattle.std.proofs.Common.{◌≡◌, length}
use Rattle.giputils_bench.proofs.sets.subset.Given as goal

abbrev pub invariant-loop : goal.invariant-loop
invariant-loop l = length l.copy ≡ l.size
