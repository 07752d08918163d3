-- The clauses of the others so far.
use Rattle.std.proofs.Common.{◌≡◌, ◌++◌, map, take}
use Rattle.gipsat_cnf.specs.Encodings.{one_false}
use Rattle.gipsat_encodings.proofs.pairs.add_pairs.Given as goal

abbrev pub invariant-loop-other : goal.invariant-loop-other
invariant-loop-other g l = g.S.ClauseSink.formula l.sink ≡ g.S.ClauseSink.formula l.fn.sink ++ map (one_false l.literal) (take l.other-index l.others)
