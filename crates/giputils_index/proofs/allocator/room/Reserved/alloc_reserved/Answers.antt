-- There is room to count one unmarked slot more.
use Rattle.std.proofs.Common.{arith}
use Rattle.std.proofs.lemmas.Grind.{common_steps}
use Rattle.giputils_index.proofs.Slots.{live_count-le}
use Rattle.giputils_index.proofs.allocator.room.Reserved.alloc_reserved.Goals as goal

pub overflow_add-self : goal.overflow_add-self
overflow_add-self g c =
    let few = live_count-le c.self.inside.slots.items in
    grind (arith, common_steps, c.self.invariant, c.self.inside.slots.small)
