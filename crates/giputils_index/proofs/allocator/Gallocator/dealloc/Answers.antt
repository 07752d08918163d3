-- A marked slot is left alone. An unmarked one is written back with a mark, and there is one unmarked slot less.
use Rattle.std.proofs.Common.{arith, ap, sym, ◌∙◌, ◌≡◌, ◌<◌, length, refl, Some}
use Rattle.std.specs.Prelude.{slice_get}
use Rattle.std.proofs.lemmas.Option.{slice_get_read}
use Rattle.giputils_index.specs.Allocator.{value_at, mark_at, live_count}
use Rattle.giputils_index.proofs.Slots.{mark-marked, mark_at-mark, mark_at-mark_other, value_at-mark, live_count-mark}
use Rattle.giputils_index.proofs.allocator.Gallocator.dealloc.Goals as goal

pub returns-then-is_removed-clause-marked : goal.returns-then-is_removed-clause-marked
returns-then-is_removed-clause-marked g c = sym (mark-marked c.args.self.now c.args.index c.if-is_removed.ensures)

pub overflow_sub-self : goal.overflow_sub-self
overflow_sub-self g c =
    let fewer = live_count-mark c.args.self.now c.args.index c.if-is_removed.ensures in
    let count = c.self.invariant ∙ ap live_count c.self.view_is in
    omega arith

pub returns-clause-marked : goal.returns-clause-marked
returns-clause-marked g c =
    let slots = c.self.inside.slots in
    let below : c.args.index < length c.self.inside.slots = rw c.self.view_is c.requires in
    let read : slice_get c.self.inside.slots c.args.index ≡ Some (c.slot.inside.value, c.slot.inside.removed) =
    slice_get_read slots (length slots) c.args.index (c.slot.inside.value, c.slot.inside.removed) refl below (rw c.slot.view_is c.index_mut-slot.ensures.value)
    in
    rw (← c.self.view_is, read) refl

pub invariant_of-self : goal.invariant_of-self
invariant_of-self g c =
    let fewer = live_count-mark c.args.self.now c.args.index c.if-is_removed.ensures in
    let count = c.self.invariant ∙ ap live_count c.self.view_is in
    let left = ap live_count (returns-clause-marked g c) in
    omega arith

pub returns-clause-mark : goal.returns-clause-mark
returns-clause-mark g c =
    ap (λ slots. mark_at slots c.args.index) (returns-clause-marked g c) ∙ mark_at-mark c.args.self.now c.args.index c.requires

pub returns-clause-other_marks : goal.returns-clause-other_marks
returns-clause-other_marks g c k other =
    ap (λ slots. mark_at slots k) (returns-clause-marked g c) ∙ mark_at-mark_other c.args.self.now c.args.index k other

pub returns-clause-values : goal.returns-clause-values
returns-clause-values g c k =
    ap (λ slots. value_at slots k) (returns-clause-marked g c) ∙ value_at-mark c.args.self.now c.args.index k
