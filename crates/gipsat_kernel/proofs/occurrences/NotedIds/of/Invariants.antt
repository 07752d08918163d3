use Rattle.gipsat_kernel.proofs.OccurrenceLemmas.{CoversFirst}
use Rattle.gipsat_kernel.proofs.occurrences.NotedIds.of.Given as goal

abbrev pub invariant-loop-id : goal.invariant-loop-id
invariant-loop-id l = CoversFirst l.noted l.clauses l.id
