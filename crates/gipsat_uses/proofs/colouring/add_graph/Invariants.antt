-- The vertices, and then the edges so far.
use Rattle.gipsat_cnf.specs.Encodings.{Adds, AllBelow}
use Rattle.gipsat_uses.specs.Colouring.{EndsDifferAt, IsColoured}
use Rattle.gipsat_uses.proofs.colouring.add_graph.Given as goal

abbrev pub invariant-loop-vertex : goal.invariant-loop-vertex
invariant-loop-vertex g l =
    Adds (λ a. AllBelow l.vertex (IsColoured l.colours a)) (g.S.ClauseSink.formula l.fn.sink) (g.S.ClauseSink.formula l.sink)

abbrev pub invariant-loop-edge : goal.invariant-loop-edge
invariant-loop-edge g l =
    Adds (λ a. AllBelow l.edge-index (EndsDifferAt l.colours l.edges a)) (g.S.ClauseSink.formula l.initial.sink) (g.S.ClauseSink.formula l.sink)
