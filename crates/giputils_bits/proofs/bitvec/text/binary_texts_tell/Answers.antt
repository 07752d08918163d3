use Rattle.giputils_bits.proofs.Text as laws
use Rattle.giputils_bits.proofs.bitvec.text.binary_texts_tell.Goals as goal

pub returns : goal.returns
returns c = laws.binary_texts_tell
