-- The literals so far have the names that were given.
use Rattle.std.proofs.Common.{◌≡◌, map, take}
use Rattle.gipmc_reduce.specs.Cone.{literal_named}
use Rattle.gipmc_reduce.proofs.cone.names.Names.literals.Given as goal

abbrev pub invariant-loop-l : goal.invariant-loop-l
invariant-loop-l l = map (literal_named l.self.names.items) l.all.items ≡ take l.l-index l.literals
