-- A core so far, of which each literal from the place on is needed.
use Rattle.std.proofs.Common.{◌≡◌, ◌≤◌, vec_len}
use Rattle.gipsat_cnf.specs.Assumptions.{IsCore}
use Rattle.gipsat_uses.specs.MinimalCore.{NeedsFrom}
use Rattle.gipsat_uses.proofs.minimal_core.minimal_core.Given as goal

abbrev pub invariant-loop-place : goal.invariant-loop-place
invariant-loop-place g l =
    (g.S.ClauseSink.formula l.solver ≡ g.S.ClauseSink.formula l.fn.solver) × (l.place ≤ vec_len l.core)
    × IsCore (g.S.ClauseSink.formula l.fn.solver) l.assumptions l.core.items
    × NeedsFrom (g.S.ClauseSink.formula l.fn.solver) l.place l.core.items

abbrev pub decreases-loop-place : goal.decreases-loop-place
decreases-loop-place g l = l.place
