-- Each turn counts one more item, and at most as many are counted as there are.
use Rattle.std.proofs.Common.{refl, rules}
use Rattle.std.proofs.lemmas.List.{take_all}
use Rattle.std.specs.Prelude.{get_or}
use Rattle.giputils_uses.proofs.Counting.{count_at-le, HasCounts-next}
use Rattle.giputils_uses.proofs.counts.counted.Goals as goal

pub loop-item-init : goal.loop-item-init
loop-item-init g c k = rw c.new-counts.ensures refl

pub add_one-requires : goal.add_one-requires
add_one-requires g c =
    let few = count_at-le c.args.items.now c.loop-item.item-index c.loop-item.counts
    (get_or c.args.items.now c.loop-item.item-index 0) c.loop-item.auto.item-index-end c.loop-item.invariant in
    search (rules, few)

pub loop-item-preserved : goal.loop-item-preserved
loop-item-preserved g c =
    HasCounts-next c.args.items.now c.loop-item.item-index _ _ c.loop-item-test.true c.loop-item.invariant c.in_ok-add_one.ensures.ok

pub returns : goal.returns
returns g c =
    let whole = take_all c.loop-item.item-index c.args.items.now c.loop-item-test.false in
    rw whole at c.loop-item.invariant
