use Rattle.std.proofs.Common.{◌≡◌, length, arith}
use Rattle.giputils_bits.proofs.Rewritten.{Rewrites-none, Rewrites-more}
use Rattle.giputils_bits.proofs.bitvec.words.join_words.Goals as goal

pub loop-k-init : goal.loop-k-init
loop-k-init g c = Rewrites-none _ _

pub loop-k-preserved : goal.loop-k-preserved
loop-k-preserved g c = Rewrites-more _ _ _ _ _ (omega arith) c.apply.ensures c.loop-k.invariant

pub returns : goal.returns
returns g c = let all : c.loop-k.k ≡ length c.args.words.now = omega arith in rw all at c.loop-k.invariant
