use Rattle.gipsat_cnf.specs.Encodings.{Adds, AllBelow}
use Rattle.gipsat_uses.specs.Colouring.{HasColour}
use Rattle.gipsat_uses.proofs.colouring.add_edge.Given as goal

abbrev pub invariant-loop-colour : goal.invariant-loop-colour
invariant-loop-colour g l =
    Adds (λ a. AllBelow l.colour (λ c. HasColour l.colours a l.edge.0 c → ¬ (HasColour l.colours a l.edge.1 c)))
    (g.S.ClauseSink.formula l.fn.sink) (g.S.ClauseSink.formula l.sink)
