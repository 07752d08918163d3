-- The clauses of the facts so far.
use Rattle.std.proofs.Common.{◌≡◌}
use Rattle.gipsat_uses.specs.Incremental.{with_first}
use Rattle.gipsat_uses.proofs.incremental.add_facts.Given as goal

abbrev pub invariant-loop-fact : goal.invariant-loop-fact
invariant-loop-fact g l = g.S.ClauseSink.formula l.solver ≡ with_first (g.S.ClauseSink.formula l.fn.solver) l.facts l.fact-index
