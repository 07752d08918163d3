-- The node that is made has the length of the others, and so has the one that it takes the place of.
use Rattle.std.proofs.Common.{◌≡◌, ◌<◌, ◌∙◌, ap, length, rules}
use Rattle.std.proofs.lemmas.List.{length-set}
use Rattle.std.proofs.lemmas.List.Elements.{All-set}
use Rattle.giputils_bench.proofs.Lengths.{length-conjoined}
use Rattle.giputils_bench.proofs.sets.aig.Goals as goal

pub loop-preserved : goal.loop-preserved
loop-preserved c =
    let first : length c.index.result.now ≡ c.args.size = search rules in
    let second : length c.index-in-loop.result.now ≡ c.args.size = search rules in
    let within : c.below-node.result < length c.loop.nodes.items = search rules in
    record {
      sizes = All-set (λ bits. length bits ≡ c.args.size) _ _ _
          (ap length c.swap.ensures.x_after ∙ length-conjoined _ _ _ _ _ _ c.assign_and.ensures first second) c.loop.invariant.sizes;
      len = length-set c.loop.nodes.items c.below-node.result c.swap.new.x ∙ c.loop.invariant.len;
      made = ap length c.swap.ensures.y_after ∙ ap length c.index_mut.ensures.value ∙ c.loop.invariant.sizes _ _ within;
    }
