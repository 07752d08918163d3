-- The digits of a sum of three bits, by five steps.
use Rattle.gipmc_builder.proofs.Built.{gives_digits}
use Rattle.gipmc_builder.proofs.build.Builder.add_bits.Goals as goal

pub returns-clause-gives : goal.returns-clause-gives
returns-clause-gives c =
    gives_digits _ _ _ _ _ c.args.left c.args.right c.args.carry c.in_ok-half.half c.in_ok-low.low c.in_ok-both.both
    c.in_ok-through.through c.in_ok-high.high c.in_ok-half.ensures.gives c.xor-2.ensures.keeps c.in_ok-low.ensures.gives
    c.and.ensures.keeps c.in_ok-both.ensures.gives c.and-2.ensures.keeps c.in_ok-through.ensures.gives c.or.ensures.keeps
    c.in_ok-high.ensures.gives
