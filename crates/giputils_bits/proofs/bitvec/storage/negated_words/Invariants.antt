-- The words before k are negated, and there is room for the rest.
use Rattle.std.proofs.Common.{◌≡◌, ◌≤◌, length, map, take, w64}
use Rattle.std.specs.Int.{bit_not}
use Rattle.giputils_bits.proofs.bitvec.storage.negated_words.Given as goal

abbrev pub invariant-loop-k : goal.invariant-loop-k
invariant-loop-k g l = record {
  done : l.negated.items ≡ map (bit_not w64) (take l.k l.words);
  count : l.negated.len ≡ l.k;
  room : length l.words ≤ l.negated.cap;
}
