-- The facts so far can be true.
use Rattle.std.proofs.Common.{◌≡◌}
use Rattle.gipsat_cnf.specs.Formulas.{IsSatisfiable}
use Rattle.gipsat_uses.specs.Incremental.{with_first}
use Rattle.gipsat_uses.proofs.incremental.longest_start.Given as goal

abbrev pub invariant-loop-place : goal.invariant-loop-place
invariant-loop-place g l =
    (g.S.ClauseSink.formula l.solver ≡ with_first (g.S.ClauseSink.formula l.fn.solver) l.facts l.place)
    × IsSatisfiable (g.S.ClauseSink.formula l.solver)
