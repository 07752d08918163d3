use Rattle.std.proofs.Common.{◌∙◌, rules}
use Rattle.std.specs.Cmp.{bool_eq_equiv}
use Rattle.std.proofs.lemmas.Bool.{eq-eqb}
use Rattle.giputils_bounded.specs.Bounds.{up_bound, down_bound, update_bound}
use Rattle.giputils_heap.proofs.Steps.{stands_where_push_fails, stands_pushed, stands_after_pop, may_pop_so, stands_at_up, stands_at_down, stands_updated, stands_rebuilt, stands_cleared, stands_unchanged, length_of_held, is_nil_of_held, is_nil-iff, push_within, pop_within, rebuild_within, key_within}
use Rattle.giputils_heap.proofs.run.make_call.Goals as goal

pub returns-in-Push-clause-stands : goal.returns-in-Push-clause-stands
returns-in-Push-clause-stands g c p stands =
    rw c.in-Push.is (stands_where_push_fails g.met.T.HeapKey.one_value stands c.args.cmp.now.comparer c.in-Push.v)

pub returns-in-Ok-clause-stands : goal.returns-in-Ok-clause-stands
returns-in-Ok-clause-stands g c p stands =
    rw c.in-Push-2.is
    (stands_pushed g.met.T.HeapKey.one_value stands c.args.cmp.now.comparer c.in-Push-2.v c.push_counted.new.self
    c.in-Ok.ensures.pushes.stays c.in-Ok.ensures.pushes.added c.in-Ok.ensures.pushes.in_order)

pub returns-in-Ok-clause-comparisons : goal.returns-in-Ok-clause-comparisons
returns-in-Ok-clause-comparisons g c p stands =
    rw c.in-Push-2.is
    (push_within g.met.T.HeapKey.one_value stands c.args.cmp.now.comparer c.in-Push-2.v c.args.cmp.now.count c.push_counted.new.cmp.count
    (search rules) c.in-Ok.ensures.held_uncompared c.in-Ok.ensures.asks.comparisons)

pub returns-in-Err-clause-stands : goal.returns-in-Err-clause-stands
returns-in-Err-clause-stands g c p stands =
    rw (c.in-Push-2.is, c.in-Err.ensures.refused)
    (stands_where_push_fails g.met.T.HeapKey.one_value stands c.args.cmp.now.comparer c.in-Push-2.v)

pub returns-in-Err-clause-comparisons : goal.returns-in-Err-clause-comparisons
returns-in-Err-clause-comparisons g c p stands =
    rw c.in-Push-2.is
    (push_within g.met.T.HeapKey.one_value stands c.args.cmp.now.comparer c.in-Push-2.v c.args.cmp.now.count c.push_counted.new.cmp.count
    (search rules) c.in-Err.ensures.held_uncompared c.in-Err.ensures.asks.comparisons)

pub returns-in-Pop-clause-reply : goal.returns-in-Pop-clause-reply
returns-in-Pop-clause-reply g c p stands =
    rw c.in-Pop.is
    (may_pop_so g.met.T.HeapKey.one_value stands c.args.cmp.now.comparer c.pop_counted.result c.pop_counted.new.self
    c.pop_counted.ensures.pops.some.1 c.pop_counted.ensures.pops.taken c.pop_counted.ensures.pops.greatest)

pub returns-in-Pop-clause-stands : goal.returns-in-Pop-clause-stands
returns-in-Pop-clause-stands g c p stands =
    rw c.in-Pop.is
    (stands_after_pop g.met.T.HeapKey.one_value stands c.args.cmp.now.comparer c.pop_counted.result c.pop_counted.new.self
    c.pop_counted.ensures.pops.taken c.pop_counted.ensures.pops.none c.pop_counted.ensures.pops.in_order)

pub returns-in-Pop-clause-comparisons : goal.returns-in-Pop-clause-comparisons
returns-in-Pop-clause-comparisons g c p stands =
    rw c.in-Pop.is
    (pop_within g.met.T.HeapKey.one_value stands c.args.cmp.now.comparer c.args.cmp.now.count c.pop_counted.new.cmp.count
    c.pop_counted.ensures.asks.comparisons)

pub returns-in-Up-clause-stands : goal.returns-in-Up-clause-stands
returns-in-Up-clause-stands g c p stands =
    rw c.in-Up.is
    (stands_at_up g.met.T.HeapKey.one_value stands c.args.cmp.now.comparer c.in-Up.v c.up_counted.new.self c.up_counted.ensures.goes_up.moved
    c.up_counted.ensures.goes_up.in_order c.up_counted.ensures.goes_up.repaired)

pub returns-in-Up-clause-comparisons : goal.returns-in-Up-clause-comparisons
returns-in-Up-clause-comparisons g c p stands =
    rw c.in-Up.is
    (key_within g.met.T.HeapKey.one_value stands c.args.cmp.now.comparer c.in-Up.v c.args.cmp.now.count c.up_counted.new.cmp.count up_bound
    c.up_counted.ensures.absent_uncompared c.up_counted.ensures.asks.comparisons)

pub returns-in-Down-clause-stands : goal.returns-in-Down-clause-stands
returns-in-Down-clause-stands g c p stands =
    rw c.in-Down.is
    (stands_at_down g.met.T.HeapKey.one_value stands c.args.cmp.now.comparer c.in-Down.v c.down_counted.new.self c.down_counted.ensures.goes_down.moved
    c.down_counted.ensures.goes_down.in_order c.down_counted.ensures.goes_down.repaired)

pub returns-in-Down-clause-comparisons : goal.returns-in-Down-clause-comparisons
returns-in-Down-clause-comparisons g c p stands =
    rw c.in-Down.is
    (key_within g.met.T.HeapKey.one_value stands c.args.cmp.now.comparer c.in-Down.v c.args.cmp.now.count c.down_counted.new.cmp.count down_bound
    c.down_counted.ensures.absent_uncompared c.down_counted.ensures.asks.comparisons)

pub returns-in-Update-clause-stands : goal.returns-in-Update-clause-stands
returns-in-Update-clause-stands g c p stands =
    rw c.in-Update.is
    (stands_updated g.met.T.HeapKey.one_value stands c.args.cmp.now.comparer c.in-Update.v c.update_counted.new.self
    c.update_counted.ensures.updates.moved c.update_counted.ensures.updates.repaired)

pub returns-in-Update-clause-comparisons : goal.returns-in-Update-clause-comparisons
returns-in-Update-clause-comparisons g c p stands =
    rw c.in-Update.is
    (key_within g.met.T.HeapKey.one_value stands c.args.cmp.now.comparer c.in-Update.v c.args.cmp.now.count c.update_counted.new.cmp.count update_bound
    c.update_counted.ensures.absent_uncompared c.update_counted.ensures.asks.comparisons)

pub returns-in-Rebuild-clause-stands : goal.returns-in-Rebuild-clause-stands
returns-in-Rebuild-clause-stands g c p stands =
    rw c.in-Rebuild.is
    (stands_rebuilt g.met.T.HeapKey.one_value stands c.args.cmp.now.comparer c.rebuild_counted.new.self c.rebuild_counted.ensures.rebuilds.moved
    c.rebuild_counted.ensures.rebuilds.in_order)

pub returns-in-Rebuild-clause-comparisons : goal.returns-in-Rebuild-clause-comparisons
returns-in-Rebuild-clause-comparisons g c p stands =
    rw c.in-Rebuild.is
    (rebuild_within g.met.T.HeapKey.one_value stands c.args.cmp.now.comparer c.args.cmp.now.count c.rebuild_counted.new.cmp.count
    c.rebuild_counted.ensures.asks.comparisons)

pub returns-in-Clear-clause-stands : goal.returns-in-Clear-clause-stands
returns-in-Clear-clause-stands g c p stands =
    rw c.in-Clear.is
    (stands_cleared g.met.T.HeapKey.one_value stands c.args.cmp.now.comparer c.clear.new.self c.clear.ensures.empty c.clear.ensures.in_order)

pub returns-in-Len-clause-reply : goal.returns-in-Len-clause-reply
returns-in-Len-clause-reply g c p stands =
    rw c.in-Len.is (eq-eqb _ _ (c.len.ensures.len ∙ length_of_held g.met.T.HeapKey.one_value stands c.args.cmp.now.comparer))

pub returns-in-Len-clause-stands : goal.returns-in-Len-clause-stands
returns-in-Len-clause-stands g c p stands = rw c.in-Len.is (stands_unchanged g.met.T.HeapKey.one_value stands c.args.cmp.now.comparer)

pub returns-in-IsEmpty-clause-reply : goal.returns-in-IsEmpty-clause-reply
returns-in-IsEmpty-clause-reply g c p stands =
    rw (
      c.in-IsEmpty.is,
      is_nil-iff c.is_empty.result c.args.heap.now c.is_empty.ensures,
      is_nil_of_held g.met.T.HeapKey.one_value stands c.args.cmp.now.comparer,
    )
    (bool_eq_equiv.refl _)

pub returns-in-IsEmpty-clause-stands : goal.returns-in-IsEmpty-clause-stands
returns-in-IsEmpty-clause-stands g c p stands = rw c.in-IsEmpty.is (stands_unchanged g.met.T.HeapKey.one_value stands c.args.cmp.now.comparer)
