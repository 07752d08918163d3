-- The digits of a difference of bits, by three steps.
use Rattle.gipmc_builder.proofs.Differences.{gives_difference_digits}
use Rattle.gipmc_builder.proofs.build.Builder.sub_bits.Goals as goal

pub returns-clause-gives : goal.returns-clause-gives
returns-clause-gives c =
    gives_difference_digits _ _ _ c.args.left c.args.right c.args.borrow c.in_ok-half.half c.in_ok-low.low c.in_ok-high.high
    c.in_ok-half.ensures.gives c.xor-2.ensures.keeps c.in_ok-low.ensures.gives c.borrow.ensures.keeps
    c.in_ok-high.ensures.gives
