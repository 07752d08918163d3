use Rattle.std.proofs.Common.{arith}
use Rattle.giputils_bits.proofs.Ones.{true_count-not_of}
use Rattle.giputils_bits.proofs.bitvec.BitVec.count_zeros.Goals as goal

pub returns : goal.returns
returns g c = omega (arith, c.len.ensures, c.count_ones.ensures, true_count-not_of c.args.self.now)
