-- One digit more is copied.
use Rattle.std.proofs.Common.{◌+◌, ◌++◌, drop, ap, ◌∙◌}
use Rattle.gipmc_builder.specs.Build.{number_of}
use Rattle.gipmc_builder.proofs.Shifts.{copied_all, copied_more, shifted_right}
use Rattle.gipmc_builder.proofs.build.Builder.shift_right.Goals as goal

pub loop-place-preserved : goal.loop-place-preserved
loop-place-preserved c =
    ap (λ ls. ls ++ drop (c.loop-place.place + 1) c.args.bits.now) c.in_ok-push.ensures.items
    ∙ copied_more c.loop-place.shifted.items c.args.bits.now (drop c.args.places c.args.bits.now) c.loop-place.place
    c.index-bits-place.result c.loop-place-test.true c.index-bits-place.is c.loop-place.invariant

pub returns : goal.returns
returns c = λ a.
    ap (number_of a)
    (copied_all c.loop-place.shifted.items c.args.bits.now (drop c.args.places c.args.bits.now) c.loop-place.place
    c.loop-place-test.false c.loop-place.invariant)
    ∙ shifted_right c.args.bits.now c.args.places a
