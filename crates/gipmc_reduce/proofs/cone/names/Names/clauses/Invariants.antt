-- The clauses so far have the names that were given.
use Rattle.std.proofs.Common.{◌≡◌, take}
use Rattle.gipmc_reduce.specs.Cone.{rows, rows_named}
use Rattle.gipmc_reduce.proofs.cone.names.Names.clauses.Given as goal

abbrev pub invariant-loop-clause : goal.invariant-loop-clause
invariant-loop-clause l = rows (take l.clause-index l.clauses) ≡ rows_named l.self.names.items l.all.items
