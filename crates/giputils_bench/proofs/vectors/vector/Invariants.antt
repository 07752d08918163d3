use Rattle.std.proofs.Common.{◌≡◌, length}
use Rattle.giputils_bench.proofs.vectors.vector.Given as goal

abbrev pub invariant-loop-k : goal.invariant-loop-k
invariant-loop-k l = length l.bits ≡ l.size
