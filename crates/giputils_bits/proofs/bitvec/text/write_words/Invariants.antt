-- The words from `left` on are written.
use Rattle.std.proofs.Common.{◌≡◌, ℕ, ◌^◌, ◌≤◌, List, ◌++◌, map, length, take}
use Rattle.std.specs.Fmt.{digit_glyph, IsFlush, HasWrittenStyled}
use Rattle.giputils_bits.specs.Spelt.{digits_of_words}
use Rattle.giputils_bits.proofs.bitvec.text.write_words.Given as goal

abbrev pub invariant-loop-left : goal.invariant-loop-left
invariant-loop-left g l =
    (l.left ≤ length l.words)
    × (IsFlush l.initial.f → (done : List ℕ) × HasWrittenStyled g.W.Write.write_str_gives l.initial.f done l.f
    × (done ++ map (digit_glyph l.upper) (digits_of_words (2 ^ l.shift) l.count (take l.left l.words)) ≡ map (digit_glyph l.upper) (digits_of_words (2 ^ l.shift) l.count l.words)))

abbrev pub decreases-loop-left : goal.decreases-loop-left
decreases-loop-left g l = l.left
