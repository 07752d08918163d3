-- What is counted and what is left together are no more than all bits.
use Rattle.std.proofs.Common.{◌+◌, ◌<◌, ◌^◌, length}
use Rattle.giputils_bench.proofs.bits.count_true.Given as goal

abbrev pub invariant-loop-bit : goal.invariant-loop-bit
invariant-loop-bit l =
    (goal.iterator-loop-bit).can_next l.bit-iterator ×
    (goal.iterator-loop-bit).is_finite l.bit-iterator ×
    (l.count + length l.bit-iterator < 2 ^ 32)
