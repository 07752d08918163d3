-- The words before k are joined, and the others are as they were.
use Rattle.std.proofs.Common.{get_or}
use Rattle.giputils_bits.specs.Places.{Rewrites}
use Rattle.giputils_bits.proofs.bitvec.words.join_words.Given as goal

abbrev pub invariant-loop-k : goal.invariant-loop-k
invariant-loop-k g l = Rewrites (λ k word. g.O.WordOp.made word (get_or l.others k 0)) l.initial.words l.words l.k
