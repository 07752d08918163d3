use Rattle.std.proofs.Common.{◌≡◌, ℕ, ◌<◌, true, Some}
use Rattle.std.specs.Prelude.{slice_get}
use Rattle.gipsat_cnf.specs.Literals.{Lit}
use Rattle.gipsat_kernel.specs.Marks.{is_marked}
use Rattle.gipsat_kernel.proofs.marks.Marks.add_all.Given as goal

abbrev pub invariant-loop-l : goal.invariant-loop-l
invariant-loop-l l = (k : ℕ) (m : Lit) → k < l.l-index → slice_get l.clause k ≡ Some m → is_marked l.self m ≡ true
