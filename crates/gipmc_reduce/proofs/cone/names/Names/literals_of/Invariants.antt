-- The literals so far are named.
use Rattle.std.proofs.Common.{◌≡◌, map, take}
use Rattle.gipmc_reduce.specs.Cone.{literal_named}
use Rattle.gipmc_reduce.proofs.cone.names.Names.literals_of.Given as goal

abbrev pub invariant-loop-l : goal.invariant-loop-l
invariant-loop-l l = l.all.items ≡ map (literal_named l.self.names.items) (take l.l-index l.literals)
