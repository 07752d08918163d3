use Rattle.std.proofs.Common.{ℕ, ◌≤◌, length}
use Rattle.giputils_uses.specs.Paths.{edges_from}
use Rattle.giputils_uses.proofs.Searches.{IsSearch, left_to_do}
use Rattle.giputils_uses.proofs.paths.distances.Given as goal

abbrev pub invariant-loop-node : goal.invariant-loop-node
invariant-loop-node g l = (was : ℕ) × IsSearch l.graph l.source l.far.items l.waiting was (length (edges_from l.graph was))

abbrev pub decreases-loop-node : goal.decreases-loop-node
decreases-loop-node g l = left_to_do l.far.items l.waiting

abbrev pub invariant-loop-edge : goal.invariant-loop-edge
invariant-loop-edge g l =
    IsSearch l.graph l.source l.far.items l.waiting l.node l.edge-index
    × (left_to_do l.far.items l.waiting ≤ left_to_do l.initial.far.items l.initial.waiting)
