use Rattle.giputils_bits.proofs.Logic as laws
use Rattle.giputils_bits.proofs.bitvec.logic.xor_with_itself.Goals as goal

pub returns : goal.returns
returns c = laws.xor_with_itself
