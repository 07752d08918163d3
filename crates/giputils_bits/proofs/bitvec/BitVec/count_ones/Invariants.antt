-- The true places of the words before k are counted.
use Rattle.std.proofs.Common.{◌≡◌, ◌*◌, take}
use Rattle.giputils_bits.specs.Ones.{true_count}
use Rattle.giputils_bits.proofs.bitvec.BitVec.count_ones.Given as goal

abbrev pub invariant-loop-k : goal.invariant-loop-k
invariant-loop-k g l = l.count ≡ true_count (take (64 * l.k) l.fn.self)
