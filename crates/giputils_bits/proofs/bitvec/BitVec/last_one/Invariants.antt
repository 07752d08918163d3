-- No place from word k on is true.
use Rattle.std.proofs.Common.{◌≡◌, ℕ, ◌*◌, ◌≤◌, false, length}
use Rattle.giputils_bits.specs.Places.{place}
use Rattle.giputils_bits.proofs.bitvec.BitVec.last_one.Given as goal

abbrev pub invariant-loop-k : goal.invariant-loop-k
invariant-loop-k g l = record {
  within : l.k ≤ length l.words;
  none : (j : ℕ) → 64 * l.k ≤ j → place l.words j ≡ false;
}

abbrev pub decreases-loop-k : goal.decreases-loop-k
decreases-loop-k g l = l.k
