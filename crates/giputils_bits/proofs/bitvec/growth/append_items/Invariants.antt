-- With the gathered word as the last, the words keep the old bits and the items so far.
use Rattle.std.proofs.Common.{◌≡◌, ◌+◌, ◌≤◌, ◌++◌, length}
use Rattle.giputils_bits.specs.Places.{bits_of}
use Rattle.giputils_bits.proofs.Gathered.{Gathers}
use Rattle.giputils_bits.proofs.bitvec.growth.append_items.Given as goal

abbrev pub invariant-loop-bit : goal.invariant-loop-bit
invariant-loop-bit g l = record {
  gathers : Gathers l.end l.words l.last l.word (bits_of l.fn.len l.fn.words ++ l.yielded);
  long : l.end ≡ l.fn.len + length l.yielded;
  left : length l.yielded + (goal.iterator-loop-bit g).remaining l.bit-iterator ≤ (goal.iterator-loop-bit g).remaining l.initial.bit-iterator;
}
