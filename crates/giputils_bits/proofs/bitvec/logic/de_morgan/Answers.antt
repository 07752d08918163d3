use Rattle.giputils_bits.proofs.Logic as laws
use Rattle.giputils_bits.proofs.bitvec.logic.de_morgan.Goals as goal

pub returns : goal.returns
returns c = laws.de_morgan
