use Rattle.giputils_bits.proofs.bitvec.BitVec.extend.Goals as goal

pub returns-clause-err : goal.returns-clause-err
returns-clause-err g c = rw c.self.view_is at c.append_items-len.ensures.err

pub returns-clause-ran : goal.returns-clause-ran
returns-clause-ran g c = rw c.self.view_is at c.append_items-len.ensures.ran
