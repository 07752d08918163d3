-- What was left at the call is what is left from the word in hand on.
use Rattle.std.proofs.Common.{◌≡◌, ◌-◌, ◌*◌, ◌^◌, ◌<◌, length}
use Rattle.giputils_bits.specs.Prelude.{bits_of, true_places, words_from}
use Rattle.giputils_bits.proofs.bitvec.ones.OnesIterator.next.Given as goal

abbrev pub invariant-loop-word : goal.invariant-loop-word
invariant-loop-word l = record {
  within : l.k < length l.words;
  fits : l.word < 2 ^ 64;
  left : true_places 0 (bits_of (64 * length l.words) (words_from l.k l.word l.words)) ≡ l.fn.self;
}

abbrev pub decreases-loop-word : goal.decreases-loop-word
decreases-loop-word l = length l.words - l.k
