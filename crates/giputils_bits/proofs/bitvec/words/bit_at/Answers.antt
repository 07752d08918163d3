use Rattle.giputils_bits.proofs.Places.{place-reads}
use Rattle.giputils_bits.proofs.bitvec.words.bit_at.Goals as goal

pub returns : goal.returns
returns c = place-reads c.args.words.now c.args.index
