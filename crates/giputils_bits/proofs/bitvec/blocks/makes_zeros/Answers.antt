use Rattle.std.proofs.Common.{arith}
use Rattle.std.proofs.lemmas.Bool.{false≢true}
use Rattle.giputils_bits.proofs.ZeroWords.{front_of_zeros, rest_of_zeros}
use Rattle.giputils_bits.proofs.bitvec.blocks.makes_zeros.Goals as goal

pub loop-rest-init : goal.loop-rest-init
loop-rest-init g c = (c.requires, (λ zeros. zeros, λ zeros. zeros))

pub returns-then-not-block_makes_zeros : goal.returns-then-not-block_makes_zeros
returns-then-not-block_makes_zeros g c =
    let front = c.split_at.ensures.front in
    let others_front = c.split_at-in-loop-rest.ensures.front in (
      λ t. absurd (false≢true t),
      λ zeros. rw c.if-not-block_makes_zeros.true at
          (c.block_makes_zeros.ensures.1 (rw (front, others_front) (front_of_zeros g.O.WordOp.made 64 _ _ (c.loop-rest.invariant.1.1 zeros)))),
    )

pub loop-rest-preserved : goal.loop-rest-preserved
loop-rest-preserved g c =
    let mine = c.split_at.ensures in
    let theirs = c.split_at-in-loop-rest.ensures in
    let rests = rest_of_zeros g.O.WordOp.made 64 _ _ (rw (mine.front, theirs.front) at (c.block_makes_zeros.ensures.0 c.if-not-block_makes_zeros.false)) in (
      omega (arith, mine.back_len, theirs.back_len, c.loop-rest.invariant.0),
      (
        λ zeros. c.loop-rest.invariant.1.0 (rests.0 (rw (mine.back, theirs.back) at zeros)),
        λ zeros. rw (mine.back, theirs.back) (rests.1 (c.loop-rest.invariant.1.1 zeros)),
      ),
    )

pub returns : goal.returns
returns g c = (
  λ t. c.loop-rest.invariant.1.0 (c.block_makes_zeros-2.ensures.0 t),
  λ zeros. c.block_makes_zeros-2.ensures.1 (c.loop-rest.invariant.1.1 zeros),
)
