use Rattle.gipsat_kernel.proofs.Staying.{FirstStay}
use Rattle.gipsat_kernel.proofs.flags.keep_original.Given as goal

abbrev pub invariant-loop-place : goal.invariant-loop-place
invariant-loop-place l = FirstStay l.original l.stays l.place
