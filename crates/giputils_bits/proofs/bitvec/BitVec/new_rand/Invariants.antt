-- As many words are there as were drawn, and there is room for the rest.
use Rattle.std.proofs.Common.{◌≡◌, ◌≤◌, length}
use Rattle.giputils_bits.proofs.bitvec.BitVec.new_rand.Given as goal

abbrev pub invariant-loop : goal.invariant-loop
invariant-loop g l = record { len : l.words.len ≡ l.counter; count : length l.words.items ≡ l.counter; room : l.num_word ≤ l.words.cap }
