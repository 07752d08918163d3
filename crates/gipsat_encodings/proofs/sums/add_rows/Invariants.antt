use Rattle.std.proofs.Common.{length, ◌+◌}
use Rattle.gipsat_cnf.specs.Encodings.{Adds, AllBelow}
use Rattle.gipsat_encodings.specs.Outputs.{SaysSum}
use Rattle.gipsat_encodings.proofs.sums.add_rows.Given as goal

abbrev pub invariant-loop-i : goal.invariant-loop-i
invariant-loop-i g l =
    Adds (λ a. AllBelow l.i (λ i. AllBelow (length l.right + 1) (SaysSum l.up l.left l.right l.sums a i)))
    (g.S.ClauseSink.formula l.fn.sink) (g.S.ClauseSink.formula l.sink)
