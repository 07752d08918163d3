-- One digit more is compared.
use Rattle.gipmc_builder.proofs.Built.{keeps_then}
use Rattle.gipmc_builder.proofs.Numbers.{same_more}
use Rattle.gipmc_builder.proofs.build.Builder.are_same.Goals as goal

pub loop-place-preserved : goal.loop-place-preserved
loop-place-preserved c = (
  keeps_then c.loop-place.invariant.0 (keeps_then c.equal.ensures.keeps c.and.ensures.keeps),
  same_more c.loop-place.self.circuit c.equal.new.self.circuit c.and.new.self.circuit c.args.left.now c.args.right.now
      c.loop-place.place c.bit_at.result c.bit_at-in-loop-place.result c.loop-place.same c.in_ok-bit.bit c.in_ok-same.same
      c.bit_at.ensures c.bit_at-in-loop-place.ensures c.loop-place.invariant.1 c.equal.ensures.keeps c.in_ok-bit.ensures.gives
      c.and.ensures.keeps c.in_ok-same.ensures.gives,
)
