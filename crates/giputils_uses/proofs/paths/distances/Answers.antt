-- What the search does with each node and each edge, handed to the lemmas on searches.
use Rattle.std.proofs.Common.{◌≡◌, length, replicate, arith, rules}
use Rattle.std.proofs.lemmas.Grind.{common_steps}
use Rattle.giputils.proofs.HoldAlike.{HoldAlike-IsPermutation}
use Rattle.giputils_uses.proofs.Searches.{IsSearch-start, IsSearch-taken, IsSearch-next, IsSearch-least, edge_at, edge_nodes}
use Rattle.giputils_uses.proofs.paths.distances.Goals as goal

pub loop-node-init : goal.loop-node-init
loop-node-init g c =
    let filled : c.in_ok-far.far.items ≡ replicate (length c.args.graph.now) 4294967295 = search rules in
    let nearer = rw (filled, c.new-waiting.ensures.empty) at c.in_ok-come_nearer.ensures in
    (c.args.source, IsSearch-start c.args.graph.now c.args.source _ _ c.args.source _ c.requires.ends c.requires.source nearer)

pub loop-edge-init : goal.loop-edge-init
loop-edge-init g c =
    (IsSearch-taken c.args.graph.now _ _ _ _ _ _ (HoldAlike-IsPermutation (λ k. k) _ _ c.in-Some.ensures.pops.taken) c.loop-node.invariant.1, omega arith)

pub loop-node-preserved : goal.loop-node-preserved
loop-node-preserved g c =
    let all : c.loop-edge.edge-index ≡ length c.from_node-edge-items.result.now = grind (arith, common_steps) in
    (c.in-Some.node, rw (all, c.from_node-edge-items.ensures) at c.loop-edge.invariant.0)

pub relax-requires : goal.relax-requires
relax-requires g c =
    let at = edge_at c.args.graph.now c.in-Some.node _ _ c.from_node-edge-items.ensures c.loop-edge-test.true in
    let nodes = rw (← c.loop-edge.invariant.0.1.0.0) at (edge_nodes c.args.graph.now c.requires.ends _ _ _ at) in record { begin = nodes.0; end = nodes.1 }

pub loop-edge-preserved : goal.loop-edge-preserved
loop-edge-preserved g c =
    let at = edge_at c.args.graph.now c.in-Some.node _ _ c.from_node-edge-items.ensures c.loop-edge-test.true in
    IsSearch-next c.args.graph.now c.args.source _ c.loop-edge.waiting _ _ _ _ _ _ c.requires.ends at c.in_ok-relax.ensures c.loop-edge.invariant

pub returns-clause-least : goal.returns-clause-least
returns-clause-least g c =
    IsSearch-least c.args.graph.now c.args.source _ c.loop-node.waiting _ (grind (arith, c.in_default.ensures.pops.some)) c.loop-node.invariant.1
