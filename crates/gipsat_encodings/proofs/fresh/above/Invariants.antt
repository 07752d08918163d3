use Rattle.std.proofs.Common.{◌≡◌, ℕ, ◌<◌, ◌≤◌, Some}
use Rattle.gipsat_cnf.specs.Literals.{Lit}
use Rattle.std.specs.Prelude.{slice_get}
use Rattle.gipsat_encodings.proofs.fresh.above.Given as goal

abbrev pub invariant-loop-l : goal.invariant-loop-l
invariant-loop-l l = record {
  least : l.variables ≤ l.above;
  below : (k : ℕ) (m : Lit) → k < l.l-index → slice_get l.literals k ≡ Some m → m.variable < l.above;
}
