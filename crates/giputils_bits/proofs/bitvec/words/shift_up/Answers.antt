use Rattle.std.proofs.Common.{◌≡◌, ◌-◌, arith}
use Rattle.std.proofs.lemmas.List.{length-set}
use Rattle.giputils_bits.proofs.Shifted.{MovesUp-none, MovesUp-more}
use Rattle.giputils_bits.proofs.bitvec.words.shift_up.Goals as goal

pub loop-k-init : goal.loop-k-init
loop-k-init c = record { within = omega arith; moves = MovesUp-none _ _ }

pub loop-k-preserved : goal.loop-k-preserved
loop-k-preserved c = record {
  within = omega (arith, c.loop-k.invariant.within, length-set c.loop-k.words (c.loop-k.k - 1) c.moved_up.result);
  moves =
      MovesUp-more c.args.n c.args.words.now c.loop-k.words (c.loop-k.k - 1) c.loop-k.k _ (omega arith)
      (omega (arith, c.loop-k.invariant.within)) c.moved_up.ensures c.loop-k.invariant.moves;
}

pub returns : goal.returns
returns c = let none : c.loop-k.k ≡ 0 = omega arith in rw none at c.loop-k.invariant.moves
