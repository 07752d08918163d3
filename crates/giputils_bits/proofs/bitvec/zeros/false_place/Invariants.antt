-- From `start` on no place before word k is false, and the word in hand has the places of word k, turned round.
use Rattle.std.proofs.Common.{◌-◌, ◌/◌, ◌^◌, ◌<◌, ◌≤◌, length}
use Rattle.giputils_bits.proofs.FalsePlaces.{IsTrueBefore}
use Rattle.giputils_bits.proofs.bitvec.zeros.false_place.Given as goal

abbrev pub invariant-loop-word : goal.invariant-loop-word
invariant-loop-word l = record {
  within : l.k < length l.words;
  past : l.start / 64 ≤ l.k;
  fits : l.word < 2 ^ 64;
  before : IsTrueBefore l.words l.start l.k l.word;
}

abbrev pub decreases-loop-word : goal.decreases-loop-word
decreases-loop-word l = length l.words - l.k
