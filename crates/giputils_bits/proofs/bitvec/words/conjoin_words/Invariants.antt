-- The words before k are conjoined, and the others are as they were.
use Rattle.std.proofs.Common.{get_or}
use Rattle.giputils_bits.specs.Places.{Rewrites, common_digits}
use Rattle.giputils_bits.proofs.bitvec.words.conjoin_words.Given as goal

abbrev pub invariant-loop-k : goal.invariant-loop-k
invariant-loop-k l = Rewrites (λ k _. common_digits (get_or l.a k 0) l.mask_a (get_or l.b k 0) l.mask_b) l.initial.words l.words l.k
