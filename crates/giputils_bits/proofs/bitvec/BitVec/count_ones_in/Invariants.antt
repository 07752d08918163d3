-- The true places of the range before word k are counted.
use Rattle.std.proofs.Common.{◌≡◌, ◌*◌, take}
use Rattle.giputils_bits.specs.Ones.{true_count}
use Rattle.giputils_bits.proofs.Ranged.{alone}
use Rattle.giputils_bits.proofs.bitvec.BitVec.count_ones_in.Given as goal

abbrev pub invariant-loop-k : goal.invariant-loop-k
invariant-loop-k g l = l.count ≡ true_count (take (64 * l.k) (alone l.fn.self l.range.start l.range.end))
