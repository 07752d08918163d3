-- There are as many items as unmarked slots.
use Rattle.std.proofs.Common.{arith, ◌∙◌, ◌≡◌, sym, ap}
use Rattle.giputils_index.specs.Allocator.{live_count}
use Rattle.giputils_index.proofs.LiveValues.{length-live_slots}
use Rattle.giputils_index.proofs.allocator.Gallocator.iter.Given as given
use Rattle.giputils_index.proofs.allocator.Gallocator.iter.Goals as goal

-- the slots that the walk goes over are those of the allocator
slots_are : (g : given.Over) (c : goal.After-as_slice g) → c.as_slice.result.now ≡ c.args.self.now
slots_are g c = c.as_slice.ensures.value ∙ c.deref.ensures ∙ c.self.view_is

pub invariant_of-result : goal.invariant_of-result
invariant_of-result g c = (
  c.self.invariant ∙ ap live_count (sym (c.as_slice.ensures.value ∙ c.deref.ensures)) ∙ sym (length-live_slots 0 c.as_slice.result.now),
  omega (arith, c.as_slice.type_inv.0),
)

pub returns-clause-len : goal.returns-clause-len
returns-clause-len g c = length-live_slots 0 c.as_slice.result.now ∙ ap live_count (slots_are g c)
