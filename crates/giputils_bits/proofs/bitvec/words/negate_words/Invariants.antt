-- The words before k are negated, and the others are as they were.
use Rattle.std.specs.Int.{bit_not}
use Rattle.std.proofs.Common.{w64}
use Rattle.giputils_bits.specs.Places.{Rewrites}
use Rattle.giputils_bits.proofs.bitvec.words.negate_words.Given as goal

abbrev pub invariant-loop-k : goal.invariant-loop-k
invariant-loop-k l = Rewrites (λ k word. bit_not w64 word) l.initial.words l.words l.k
