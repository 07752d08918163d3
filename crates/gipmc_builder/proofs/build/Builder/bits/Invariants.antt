-- The circuit is the same, and the bits so far are no more than are wanted.
use Rattle.std.proofs.Common.{◌≡◌, ◌-◌, ◌≤◌, length, IsTrue}
use Rattle.gipmc_builder.specs.Build.{are_positive}
use Rattle.gipmc_builder.proofs.build.Builder.bits.Given as goal

abbrev pub invariant-loop-self : goal.invariant-loop-self
invariant-loop-self l =
    (l.self.circuit ≡ l.fn.self.circuit) × (length l.bits.items ≤ l.width) × IsTrue (are_positive l.bits.items)

abbrev pub decreases-loop-self : goal.decreases-loop-self
decreases-loop-self l = l.width - length l.bits.items
