use Rattle.gipsat_kernel.proofs.Marking.{IsGathering}
use Rattle.gipsat_kernel.proofs.marks.gather.Given as goal

abbrev pub invariant-loop-place : goal.invariant-loop-place
invariant-loop-place l = IsGathering l.initial.listed.items l.initial.flags.items l.flags.items l.listed.items l.count l.place
