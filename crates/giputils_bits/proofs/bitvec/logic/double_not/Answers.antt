use Rattle.giputils_bits.proofs.Logic as laws
use Rattle.giputils_bits.proofs.bitvec.logic.double_not.Goals as goal

pub returns : goal.returns
returns c = laws.double_not
