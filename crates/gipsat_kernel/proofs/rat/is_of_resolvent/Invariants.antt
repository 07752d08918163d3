use Rattle.std.proofs.Common.{◌≡◌, ◌<◌, ◌⊎◌, ℕ, Some}
use Rattle.std.specs.Prelude.{slice_get}
use Rattle.gipsat_cnf.specs.Prelude.{Has, HasBut, Lit}
use Rattle.gipsat_kernel.proofs.rat.is_of_resolvent.Given as goal

abbrev pub invariant-loop-l : goal.invariant-loop-l
invariant-loop-l l = (k : ℕ) (m : Lit) → k < l.l-index → slice_get l.part k ≡ Some m → Has l.clause m ⊎ HasBut l.but l.other m
