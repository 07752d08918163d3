use Rattle.gipsat_kernel.proofs.OccurrenceLemmas.{IsNoting}
use Rattle.gipsat_kernel.proofs.occurrences.NotedIds.note.Given as goal

abbrev pub invariant-loop-l : goal.invariant-loop-l
invariant-loop-l l = IsNoting l.initial.self l.self l.clause l.id l.l-index
