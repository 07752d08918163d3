-- The inputs so far are those that were added, and no more than are wanted.
use Rattle.std.proofs.Common.{◌-◌, ◌≤◌, length, IsTrue}
use Rattle.gipmc_builder.specs.Build.{AddsInputs, are_positive, variables_of}
use Rattle.gipmc_builder.proofs.build.Builder.inputs.Given as goal

abbrev pub invariant-loop-self : goal.invariant-loop-self
invariant-loop-self l =
    AddsInputs l.fn.self.circuit l.self.circuit (variables_of l.bits.items) × (length l.bits.items ≤ l.width)
    × IsTrue (are_positive l.bits.items)

abbrev pub decreases-loop-self : goal.decreases-loop-self
decreases-loop-self l = l.width - length l.bits.items
