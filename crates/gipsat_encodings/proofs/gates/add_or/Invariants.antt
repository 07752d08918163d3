use Rattle.std.proofs.Common.{◌≡◌, ◌++◌, map, take, [], ◌∷◌}
use Rattle.gipsat_cnf.specs.Literals.{Lit, negated}
use Rattle.gipsat_encodings.proofs.gates.add_or.Given as goal

abbrev pub invariant-loop-l : goal.invariant-loop-l
invariant-loop-l g l =
    g.S.ClauseSink.formula l.sink
    ≡ (g.S.ClauseSink.formula l.fn.sink ++ (l.literals ++ negated l.output ∷ []) ∷ []) ++ map (λ (x : Lit). negated x ∷ l.output ∷ []) (take l.l-index l.literals)
