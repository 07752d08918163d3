-- The digits so far and those that are left are all but the first ones.
use Rattle.std.proofs.Common.{◌≡◌, ◌++◌, drop}
use Rattle.gipmc_builder.proofs.build.Builder.shift_right.Given as goal

abbrev pub invariant-loop-place : goal.invariant-loop-place
invariant-loop-place l = l.shifted.items ++ drop l.place l.bits ≡ drop l.places l.bits
