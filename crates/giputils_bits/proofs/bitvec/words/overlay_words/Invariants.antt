-- The words before k are laid down, and the high digits of the last of them are carried.
use Rattle.std.proofs.Common.{◌+◌, ◌*◌}
use Rattle.giputils_bits.specs.Places.{Overlays}
use Rattle.giputils_bits.proofs.Overlaid.{Carries}
use Rattle.giputils_bits.proofs.bitvec.words.overlay_words.Given as goal

abbrev pub invariant-loop-k : goal.invariant-loop-k
invariant-loop-k l = record {
  laid : Overlays l.start l.others l.initial.words l.words (64 * (l.first + l.k));
  carried : Carries l.start l.others (l.first + l.k) l.carry;
}
