use Rattle.std.proofs.Common.{◌≡◌, length}
use Rattle.giputils_bench.proofs.bits.eq.Given as goal

abbrev pub invariant-loop : goal.invariant-loop
invariant-loop l = length l.copy ≡ l.size
