use Rattle.std.proofs.Common.{◌≡◌, take}
use Rattle.gipsat_cnf.specs.Lists.{retained}
use Rattle.gipsat_kernel.proofs.flags.flags_kept.Given as goal

abbrev pub invariant-loop-place : goal.invariant-loop-place
invariant-loop-place l = l.kept.items ≡ retained l.stays (take l.place l.flags)
