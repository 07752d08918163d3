use Rattle.gipsat_cnf.specs.Encodings.{Adds, AllBelow}
use Rattle.gipsat_encodings.specs.Outputs.{SaysSum}
use Rattle.gipsat_encodings.proofs.sums.add_row.Given as goal

abbrev pub invariant-loop-j : goal.invariant-loop-j
invariant-loop-j g l =
    Adds (λ a. AllBelow l.j (SaysSum l.up l.left l.right l.sums a l.i)) (g.S.ClauseSink.formula l.fn.sink) (g.S.ClauseSink.formula l.sink)
