-- The slot that was read is written back with another value, and its mark.
use Rattle.std.proofs.Common.{arith, ◌≡◌, ◌<◌, length, refl, ap, sym, Some}
use Rattle.std.specs.Prelude.{slice_get}
use Rattle.std.proofs.lemmas.Option.{slice_get_read}
use Rattle.giputils_index.proofs.Slots.{live_count-set}
use Rattle.giputils_index.proofs.allocator.GallocatorIndexMutUsize.index_mut.Goals as goal

pub invariant_of-self-lent : goal.invariant_of-self-lent
invariant_of-self-lent g c w =
    let slots = c.self.inside.slots in
    let slot = c.index_mut-slot.result.now in
    let below : c.args.index < length c.self.inside.slots = rw c.self.view_is c.requires in
    let read : slice_get c.self.inside.slots c.args.index ≡ Some c.index_mut-slot.result.now = slice_get_read slots (length slots) c.args.index slot refl below c.index_mut-slot.ensures.value in
    let count = live_count-set slots c.args.index slot (w, c.index_mut-slot.result.now.1) read in
    let before = c.self.invariant in
    omega arith

pub returns : goal.returns
returns g c =
    let slots = c.self.inside.slots in
    let slot = c.index_mut-slot.result.now in
    let below : c.args.index < length c.self.inside.slots = rw c.self.view_is c.requires in
    let read : slice_get c.self.inside.slots c.args.index ≡ Some c.index_mut-slot.result.now = slice_get_read slots (length slots) c.args.index slot refl below c.index_mut-slot.ensures.value in
    rw (← c.self.view_is, read) (
      (refl, λ w. refl),
      record { writes_back = tt; value = ap (λ v. Some v) (sym c.deref_mut.ensures.value) },
    )
