use Rattle.gipsat_kernel.proofs.Marking.{AreOfFirst}
use Rattle.gipsat_kernel.proofs.marks.mark_known.Given as goal

abbrev pub invariant-loop-l : goal.invariant-loop-l
invariant-loop-l l = AreOfFirst l.literals l.flags.items l.l-index
