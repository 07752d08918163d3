use Rattle.std.proofs.Common.{◌≡◌, ℕ, ◌<◌, Some}
use Rattle.std.specs.Prelude.{slice_get}
use Rattle.gipsat_cnf.specs.Prelude.{Has, Lit, negated}
use Rattle.gipsat_plain.proofs.search.is_refuted.Given as goal

abbrev pub invariant-loop-l : goal.invariant-loop-l
invariant-loop-l l = (k : ℕ) (m : Lit) → k < l.l-index → slice_get l.clause k ≡ Some m → Has l.literals (negated m)
