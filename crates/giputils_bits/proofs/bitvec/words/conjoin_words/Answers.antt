use Rattle.std.proofs.Common.{◌≡◌, length, refl, arith}
use Rattle.giputils_bits.proofs.Rewritten.{Rewrites-none, Rewrites-more}
use Rattle.giputils_bits.proofs.bitvec.words.conjoin_words.Goals as goal

pub loop-k-init : goal.loop-k-init
loop-k-init c = Rewrites-none _ _

pub loop-k-preserved : goal.loop-k-preserved
loop-k-preserved c = Rewrites-more _ _ _ _ _ (omega arith) refl c.loop-k.invariant

pub returns : goal.returns
returns c = let all : c.loop-k.k ≡ length c.args.words.now = omega arith in rw all at c.loop-k.invariant
