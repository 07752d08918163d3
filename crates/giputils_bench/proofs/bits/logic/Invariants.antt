use Rattle.std.proofs.Common.{◌≡◌, length}
use Rattle.giputils_bench.proofs.bits.logic.Given as goal

abbrev pub invariant-loop : goal.invariant-loop
invariant-loop l = (length l.a ≡ l.size) × (length l.b ≡ l.size)
