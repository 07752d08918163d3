-- The literals so far, by their numbers.
use Rattle.std.proofs.Common.{take}
use Rattle.gipsat_drat.specs.Numbers.{SaysOfNumbers}
use Rattle.gipsat_drat.proofs.numbering.number_clause.Given as goal

abbrev pub invariant-loop-l : goal.invariant-loop-l
invariant-loop-l l = SaysOfNumbers l.numbering.numbers.items l.made.items (take l.l-index l.clause)
