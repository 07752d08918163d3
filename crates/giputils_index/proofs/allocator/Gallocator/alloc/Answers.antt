-- There is room to count one unmarked slot more.
use Rattle.std.proofs.Common.{arith, ap}
use Rattle.std.specs.Prelude.{length}
use Rattle.std.proofs.lemmas.Grind.{common_steps}
use Rattle.giputils_index.proofs.Slots.{live_count-le}
use Rattle.giputils_index.proofs.allocator.Gallocator.alloc.Goals as goal

pub overflow_add-self : goal.overflow_add-self
overflow_add-self g c =
    let few = live_count-le c.self.inside.slots in
    let same = ap length c.deref_mut.ensures.value in
    grind (arith, common_steps, c.self.invariant, c.deref_mut.result.now.small)
