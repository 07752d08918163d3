-- So many digits are spelt, from the end of the part on, and the number without them is left.
use Rattle.std.proofs.Common.{◌≡◌, ℕ, ◌-◌, ◌%◌, ◌^◌, ◌<◌, length, get_or}
use Rattle.std.specs.Fmt.{digit_glyph}
use Rattle.giputils_bits.proofs.Text.{without_lowest}
use Rattle.giputils_bits.proofs.bitvec.text.spell.Given as goal

abbrev pub invariant-loop-k : goal.invariant-loop-k
invariant-loop-k l = record {
  mask : l.mask ≡ 2 ^ l.shift - 1;
  rest : l.rest ≡ without_lowest (2 ^ l.shift) l.k l.word;
  long : length l.buffer ≡ 64;
  each : (j : ℕ) → j < l.k → get_or l.buffer (l.count - 1 - j) 0 ≡ digit_glyph l.upper (without_lowest (2 ^ l.shift) j l.word % 2 ^ l.shift);
}
