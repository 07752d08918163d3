-- The literals so far have what stands for them.
use Rattle.std.proofs.Common.{◌≡◌, map, take}
use Rattle.gipmc_reduce.specs.Correspondence.{merged}
use Rattle.gipmc_reduce.proofs.correspondence.merges.Merges.literals.Given as goal

abbrev pub invariant-loop-l : goal.invariant-loop-l
invariant-loop-l l = l.all.items ≡ map (merged l.self.literals.items) (take l.l-index l.literals)
