-- One latch more holds the next bit.
use Rattle.gipmc_builder.proofs.Built.{adds_latches_then}
use Rattle.gipmc_builder.proofs.Numbers.{register_more, starts_at, takes_next}
use Rattle.gipmc_builder.proofs.build.Builder.register.Goals as goal

pub loop-place-preserved : goal.loop-place-preserved
loop-place-preserved c = (
  adds_latches_then c.loop-place.invariant.0 c.in_ok-latch.ensures.adds,
  register_more c.loop-place.self.circuit c.latch.new.self.circuit c.args.bits.now c.args.next.now c.args.start
      c.loop-place.place c.loop-place.rest c.index-bits-place.result c.bit_at.result c.loop-place.invariant.1
      c.loop-place-test.true c.index-bits-place.is c.bit_at.ensures c.in_ok-latch.ensures.adds c.in_ok-latch.ensures.starts
      c.in_ok-latch.ensures.becomes,
)

pub returns-clause-starts : goal.returns-clause-starts
returns-clause-starts c =
    starts_at c.loop-place.self.circuit c.args.bits.now c.args.next.now c.args.start c.loop-place.place c.loop-place.rest
    c.loop-place.invariant.1 c.loop-place-test.false

pub returns-clause-takes : goal.returns-clause-takes
returns-clause-takes c =
    takes_next c.loop-place.self.circuit c.args.bits.now c.args.next.now c.args.start c.loop-place.place c.loop-place.rest
    c.loop-place.invariant.1 c.loop-place-test.false
