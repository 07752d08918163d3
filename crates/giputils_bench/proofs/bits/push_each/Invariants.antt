use Rattle.giputils_bench.proofs.bits.push_each.Given as goal

abbrev pub invariant-loop-bit : goal.invariant-loop-bit
invariant-loop-bit l =
    (goal.iterator-loop-bit).can_next l.bit-iterator ×
    (goal.iterator-loop-bit).is_finite l.bit-iterator
