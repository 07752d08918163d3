use Rattle.std.proofs.Common.{w64}
use Rattle.std.specs.Int.{bit_not}
use Rattle.giputils_bits.proofs.Rewritten.{Rewrites-map}
use Rattle.giputils_bits.proofs.bitvec.storage.Storage.try_negated.Goals as goal

pub returns-clause-ok : goal.returns-clause-ok
returns-clause-ok g c = rw (c.of_words.ensures, c.in_ok-negated_words.ensures, c.as_slice-words.ensures) (Rewrites-map (bit_not w64) c.args.self.now)
