use Rattle.std.proofs.Common.{◌≡◌, ℕ, ◌<◌, Some, true}
use Rattle.std.specs.Prelude.{slice_get}
use Rattle.gipsat_cnf.specs.Prelude.{Clause, assignment_in, satisfies_clause}
use Rattle.gipsat_cnf.proofs.cnf.Cnf.satisfied_by.Given as goal

abbrev pub invariant-loop-place : goal.invariant-loop-place
invariant-loop-place l =
    (k : ℕ) (c : Clause) → k < l.place → slice_get l.self k ≡ Some c → satisfies_clause (assignment_in l.values) c ≡ true
