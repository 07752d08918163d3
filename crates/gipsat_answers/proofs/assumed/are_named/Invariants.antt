-- The literals so far are of the variables.
use Rattle.std.proofs.Common.{◌≡◌, ◌<◌, ℕ, Some}
use Rattle.std.specs.Prelude.{slice_get}
use Rattle.gipsat_cnf.specs.Literals.{Lit}
use Rattle.gipsat_answers.proofs.assumed.are_named.Given as goal

abbrev pub invariant-loop-l : goal.invariant-loop-l
invariant-loop-l l = (k : ℕ) (m : Lit) → k < l.l-index → slice_get l.literals k ≡ Some m → m.variable < l.variables
