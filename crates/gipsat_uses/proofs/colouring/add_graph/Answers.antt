-- Each edge was spoken of, behind each vertex.
use Rattle.std.proofs.Common.{◌≡◌, length, arith}
use Rattle.std.proofs.lemmas.Grind.{common_steps}
use Rattle.std.proofs.lemmas.Option.{slice_get-get_or}
use Rattle.gipsat_cnf.proofs.Encodings.{Adds-both, Adds-more}
use Rattle.gipsat_uses.specs.Colouring.{EndsDifferAt, IsColoured}
use Rattle.gipsat_uses.proofs.Colours.{Adds-edge}
use Rattle.gipsat_uses.proofs.colouring.add_graph.Goals as goal

pub loop-vertex-preserved : goal.loop-vertex-preserved
loop-vertex-preserved g c = Adds-more (IsColoured c.args.colours) c.loop-vertex.vertex _ _ _ c.loop-vertex.invariant c.in_ok-add_vertex.ensures

pub loop-edge-preserved : goal.loop-edge-preserved
loop-edge-preserved g c =
    Adds-more (EndsDifferAt c.args.colours c.args.edges.now) c.loop-edge.edge-index _ _ _ c.loop-edge.invariant
    (Adds-edge c.args.colours c.args.edges.now c.loop-edge.edge-index _ _ _ (slice_get-get_or c.args.edges.now c.loop-edge.edge-index _ c.loop-edge-test.true)
    c.in_ok-add_edge.ensures)

pub returns : goal.returns
returns g c =
    let vertices : c.loop-vertex.vertex ≡ c.args.vertices = grind (arith, common_steps) in
    let edges : c.loop-edge.edge-index ≡ length c.args.edges.now = grind (arith, common_steps) in
    Adds-both _ _ _ _ _ (rw vertices at c.loop-vertex.invariant) (rw edges at c.loop-edge.invariant)
