use Rattle.std.proofs.Common.{◌≡◌, ◌≢◌, ℕ, ◌<◌, true, Some}
use Rattle.std.specs.Prelude.{slice_get}
use Rattle.gipsat_cnf.specs.Literals.{Lit}
use Rattle.gipsat_kernel.specs.Marks.{Grows, is_marked}
use Rattle.gipsat_kernel.proofs.marks.Marks.add_but.Given as goal

abbrev pub invariant-loop-l : goal.invariant-loop-l
invariant-loop-l l = record {
  grows : Grows l.initial.self l.self;
  marked : (k : ℕ) (m : Lit) → k < l.l-index → slice_get l.clause k ≡ Some m → m ≢ l.but → is_marked l.self m ≡ true;
}
