-- The clauses so far say that the literals so far are true.
use Rattle.std.proofs.Common.{◌≡◌, take}
use Rattle.gipsat_cnf.specs.Prelude.{Assignment, makes_true}
use Rattle.gipmc_circuits.specs.Certificate.{holds}
use Rattle.gipmc_circuits.proofs.claims.units.Given as goal

abbrev pub invariant-loop-place : goal.invariant-loop-place
invariant-loop-place l = (a : Assignment) → holds l.rows.items a ≡ makes_true a (take l.place l.literals)
