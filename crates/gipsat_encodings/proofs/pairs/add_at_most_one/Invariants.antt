use Rattle.gipsat_encodings.proofs.AllPairs.{PairsLeft}
use Rattle.gipsat_encodings.proofs.pairs.add_at_most_one.Given as goal

abbrev pub invariant-loop-place : goal.invariant-loop-place
invariant-loop-place g l = PairsLeft l.literals l.place (g.S.ClauseSink.formula l.fn.sink) (g.S.ClauseSink.formula l.sink)
