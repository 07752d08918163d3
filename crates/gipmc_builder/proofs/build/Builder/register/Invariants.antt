-- The latches so far hold the first bits.
use Rattle.gipmc_builder.specs.Build.{AddsLatches}
use Rattle.gipmc_builder.proofs.Numbers.{RegisterSoFar}
use Rattle.gipmc_builder.proofs.build.Builder.register.Given as goal

abbrev pub invariant-loop-place : goal.invariant-loop-place
invariant-loop-place l =
    AddsLatches l.fn.self.circuit l.self.circuit × RegisterSoFar l.self.circuit l.bits l.next l.start l.place l.rest
