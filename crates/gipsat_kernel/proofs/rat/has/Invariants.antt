use Rattle.std.proofs.Common.{◌≡◌, ◌≢◌, ◌<◌, ℕ, Some}
use Rattle.std.specs.Prelude.{slice_get}
use Rattle.gipsat_cnf.specs.Literals.{Lit, code}
use Rattle.gipsat_kernel.proofs.rat.has.Given as goal

abbrev pub invariant-loop-m : goal.invariant-loop-m
invariant-loop-m l = (k : ℕ) (m : Lit) → k < l.m-index → slice_get l.clause k ≡ Some m → code m ≢ code l.l
