-- Each slot adds its entry: an unmarked one the number of unmarked slots before it, a marked one none.
use Rattle.std.proofs.Common.{arith, ap, sym, refl, ◌∙◌, ◌≡◌, ◌+◌, Some, None, true, false, cond, not, nat_eq, length}
use Rattle.std.specs.Prelude.{slice_get, option_map}
use Rattle.std.proofs.lemmas.Grind.{common_steps}
use Rattle.std.proofs.lemmas.Option.{slice_get_read}
use Rattle.giputils_index.specs.Allocator.{is_unmarked, mark_at, new_index, index_map, table_at}
use Rattle.giputils_index.proofs.IndexMaps.{up_to-put, up_to-all, table_at-push}
use Rattle.giputils_index.proofs.Renumbering.{index_map-unmarked, index_map-marked, new_index-more, new_index-le}
use Rattle.giputils_index.proofs.allocator.Gallocator.index_table.Goals as goal
use Rattle.giputils_index.proofs.allocator.Gallocator.index_table.Goals.{then-is_removed, else-is_removed}

pub overflow_add-next : goal.overflow_add-next
overflow_add-next g c =
    let few = new_index-le c.deref-slot-items.result.now c.loop-slot.slot-index in
    omega (arith, c.loop-slot.invariant.next, c.loop-slot-test.true, c.deref-slot-items.ensures.len, c.deref-2.result.now.small)

pub loop-slot-preserved : goal.loop-slot-preserved
loop-slot-preserved g c =
    let slots = c.deref-slot-items.result.now in
    let slot = c.slot-item.result in
    let i = c.loop-slot.slot-index in
    let table = c.loop-slot.table.items in
    let read : slice_get c.deref-slot-items.result.now c.loop-slot.slot-index ≡ Some c.slot-item.result = slice_get_read slots (length slots) i slot refl c.loop-slot-test.true c.slot-item.is in
    let at : mark_at c.deref-slot-items.result.now c.loop-slot.slot-index ≡ Some c.slot-item.result.1 = ap (option_map (λ s. s.1)) read in
    let more : new_index c.deref-slot-items.result.now (c.loop-slot.slot-index + 1) ≡ c.loop-slot.next + cond (is_unmarked c.slot-item.result) 1 0 =
    new_index-more slots i slot c.loop-slot-test.true c.slot-item.is ∙ ap (λ n. n + cond (is_unmarked c.slot-item.result) 1 0) (sym c.loop-slot.invariant.next)
    in
    elim c.if-is_removed.branch [
      | then-is_removed w ↦
          let marked : c.slot-item.result.1 ≡ true = grind (arith, common_steps) in
          let none : index_map c.deref-slot-items.result.now c.loop-slot.slot-index ≡ None = index_map-marked slots i (at ∙ ap (λ b. Some b) marked) in
          rw (w.table-is, w.next-is) (record {
            next = sym (more ∙ ap (λ b. c.loop-slot.next + cond (not b) 1 0) marked ∙ omega arith);
            indexed = up_to-put (index_map slots) (table_at table) _ i c.loop-slot.invariant.indexed (λ q.
                ap (λ es. table_at es q) w.push_reserved.ensures.items
                ∙ table_at-push table i None q c.loop-slot.invariant.len
                ∙ ap (λ v. cond (nat_eq c.loop-slot.slot-index q) v (table_at c.loop-slot.table.items q)) (sym none));
            len = grind (arith, common_steps);
            room = omega (arith, w.push_reserved.ensures.capacity, c.loop-slot.invariant.room);
          })
      | else-is_removed w ↦
          let unmarked : c.slot-item.result.1 ≡ false = grind (arith, common_steps) in
          let new : index_map c.deref-slot-items.result.now c.loop-slot.slot-index ≡ Some c.loop-slot.next =
          index_map-unmarked slots i (at ∙ ap (λ b. Some b) unmarked) ∙ ap (λ n. Some n) (sym c.loop-slot.invariant.next)
          in
          rw (w.table-is, w.next-is) (record {
            next = sym (more ∙ ap (λ b. c.loop-slot.next + cond (not b) 1 0) unmarked);
            indexed = up_to-put (index_map slots) (table_at table) _ i c.loop-slot.invariant.indexed (λ q.
                ap (λ es. table_at es q) w.push_reserved-else-is_removed.ensures.items
                ∙ table_at-push table i (Some c.loop-slot.next) q c.loop-slot.invariant.len
                ∙ ap (λ v. cond (nat_eq c.loop-slot.slot-index q) v (table_at c.loop-slot.table.items q)) (sym new));
            len = grind (arith, common_steps);
            room = omega (arith, w.push_reserved-else-is_removed.ensures.capacity, c.loop-slot.invariant.room);
          })
    ]

pub returns : goal.returns
returns g c =
    let is_self = c.deref-slot-items.ensures.value ∙ c.deref-2.ensures ∙ c.self.view_is in (
      λ i.
          c.loop-slot.invariant.indexed i
          ∙ up_to-all c.deref-slot-items.result.now c.loop-slot.slot-index i c.loop-slot-test.false
          ∙ ap (λ slots. index_map slots i) is_self,
      grind (arith, common_steps, c.loop-slot.invariant.len, ap length is_self),
    )
