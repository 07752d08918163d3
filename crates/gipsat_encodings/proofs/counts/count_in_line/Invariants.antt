use Rattle.std.proofs.Common.{take}
use Rattle.gipsat_encodings.specs.Outputs.{Counts}
use Rattle.gipsat_encodings.proofs.counts.count_in_line.Given as goal

abbrev pub invariant-loop-place : goal.invariant-loop-place
invariant-loop-place g l =
    Counts l.ways.up l.ways.down l.size l.fn.variables l.variables (take l.place l.literals) l.row.items (g.S.ClauseSink.formula l.fn.sink) (g.S.ClauseSink.formula l.sink)
