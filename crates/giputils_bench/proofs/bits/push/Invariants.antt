use Rattle.std.proofs.Common.{◌≡◌, length}
use Rattle.giputils_bench.proofs.bits.push.Given as goal

abbrev pub invariant-loop-i : goal.invariant-loop-i
invariant-loop-i l = length l.bits ≡ l.i
