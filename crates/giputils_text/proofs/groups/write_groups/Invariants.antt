-- What was written, and the groups of what is left, are those of the number; enough groups may follow for it.
use Rattle.std.proofs.Common.{◌≡◌, ◌<◌, ℕ, ◌++◌}
use Rattle.giputils_text.specs.Groups.{groups}
use Rattle.giputils_text.proofs.GroupLemmas.{limit}
use Rattle.giputils_text.proofs.groups.write_groups.Given as goal

abbrev pub invariant-loop-number : goal.invariant-loop-number
invariant-loop-number g l =
    (more : ℕ) × (l.number < limit more) × (l.fn.bytes.items ++ groups 4 l.fn.number ≡ l.bytes.items ++ groups more l.number)

abbrev pub decreases-loop-number : goal.decreases-loop-number
decreases-loop-number g l = l.number
