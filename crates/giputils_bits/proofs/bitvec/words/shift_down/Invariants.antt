-- Before word k each place has moved.
use Rattle.std.proofs.Common.{◌*◌}
use Rattle.giputils_bits.specs.Places.{MovesDown}
use Rattle.giputils_bits.proofs.bitvec.words.shift_down.Given as goal

abbrev pub invariant-loop-k : goal.invariant-loop-k
invariant-loop-k l = MovesDown l.n l.initial.words l.words (64 * l.k)
