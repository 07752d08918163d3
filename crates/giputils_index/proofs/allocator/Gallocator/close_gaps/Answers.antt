-- Closing up leaves the unmarked slots, which are the survivors.
use Rattle.std.proofs.Common.{ap, ◌∙◌, sym, ◌≡◌, rules}
use Rattle.std.specs.Prelude.{filter}
use Rattle.std.proofs.lemmas.Fn.{filter_same}
use Rattle.giputils_index.specs.Allocator.{is_unmarked, live_count, survivors, unmarked_slots}
use Rattle.giputils_index.proofs.Slots.{survivors-unmarked_slots, unmarked_slots-survivors}
use Rattle.giputils_index.proofs.allocator.Gallocator.close_gaps.Given as given
use Rattle.giputils_index.proofs.allocator.Gallocator.close_gaps.Goals as goal

-- the slots after `retain` closed the gaps
closed : (g : given.Over) (c : goal.After-self-1 g) → c.retain.new.self.items ≡ unmarked_slots (survivors c.args.self.now)
closed g c =
    filter_same _ is_unmarked _ (λ x b f' k. search rules) _ _ c.retain.ensures.filtered
    ∙ ap (filter is_unmarked) c.deref_mut.ensures.value
    ∙ sym (unmarked_slots-survivors c.self.inside.slots)
    ∙ ap (λ slots. unmarked_slots (survivors slots)) c.self.view_is

pub invariant_of-self : goal.invariant_of-self
invariant_of-self g c =
    rw (closed g c, survivors-unmarked_slots (survivors c.args.self.now)) (c.self.invariant ∙ ap live_count c.self.view_is)

pub returns : goal.returns
returns g c = closed g c
