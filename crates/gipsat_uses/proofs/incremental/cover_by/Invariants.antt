-- The clauses of the pairs so far.
use Rattle.std.proofs.Common.{◌≡◌, map, take}
use Rattle.gipsat_uses.specs.Incremental.{either}
use Rattle.gipsat_uses.proofs.incremental.cover_by.Given as goal

abbrev pub invariant-loop-first : goal.invariant-loop-first
invariant-loop-first g l = g.S.ClauseSink.formula l.solver ≡ map either (take l.first-index l.pairs)
