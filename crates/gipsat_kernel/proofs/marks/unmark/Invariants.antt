use Rattle.gipsat_kernel.proofs.Marking.{IsClearing}
use Rattle.gipsat_kernel.proofs.marks.unmark.Given as goal

abbrev pub invariant-loop-l : goal.invariant-loop-l
invariant-loop-l l = IsClearing l.listed l.initial.flags.items l.flags.items l.l-index
