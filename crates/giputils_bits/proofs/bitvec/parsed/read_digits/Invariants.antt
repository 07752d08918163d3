-- The bits so far, and those that the rest writes, are all; of at most a word none are read before the last.
use Rattle.std.proofs.Common.{◌≡◌, ◌≤◌, ◌++◌, [], length}
use Rattle.giputils_bits.specs.Text.{places_written}
use Rattle.giputils_bits.proofs.bitvec.parsed.read_digits.Given as goal

abbrev pub invariant-loop-rest : goal.invariant-loop-rest
invariant-loop-rest g l = record {
  all : places_written l.digits ≡ l.bits ++ places_written l.rest;
  last : length l.digits ≤ 64 → l.bits ≡ [];
}

abbrev pub decreases-loop-rest : goal.decreases-loop-rest
decreases-loop-rest g l = length l.rest
