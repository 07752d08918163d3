-- Of what is left zeros are made exactly where they are of all.
use Rattle.std.proofs.Common.{◌≡◌, ◌↔◌, length}
use Rattle.giputils_bits.specs.Places.{MakesZeros}
use Rattle.giputils_bits.proofs.bitvec.blocks.makes_zeros.Given as goal

abbrev pub invariant-loop-rest : goal.invariant-loop-rest
invariant-loop-rest g l = (length l.rest ≡ length l.others_rest)
    × (MakesZeros g.O.WordOp.made l.rest l.others_rest ↔ MakesZeros g.O.WordOp.made l.fn.words l.fn.others)

abbrev pub decreases-loop-rest : goal.decreases-loop-rest
decreases-loop-rest g l = length l.rest
