use Rattle.std.proofs.Common.{◌≡◌, ℕ, ◌<◌, Some, false}
use Rattle.std.specs.Prelude.{slice_get}
use Rattle.gipsat_cnf.specs.Prelude.{Lit, assignment_in, is_true}
use Rattle.gipsat_cnf.proofs.values.satisfies_clause.Given as goal

abbrev pub invariant-loop-l : goal.invariant-loop-l
invariant-loop-l l =
    (k : ℕ) (m : Lit) → k < l.l-index → slice_get l.clause k ≡ Some m → is_true (assignment_in l.values) m ≡ false
