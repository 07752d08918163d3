-- The clauses so far are named.
use Rattle.std.proofs.Common.{◌≡◌, take}
use Rattle.gipmc_reduce.specs.Cone.{rows, rows_named}
use Rattle.gipmc_reduce.proofs.cone.names.Names.clauses_of.Given as goal

abbrev pub invariant-loop-clause : goal.invariant-loop-clause
invariant-loop-clause l = rows l.all.items ≡ rows_named l.self.names.items (take l.clause-index l.clauses)
