-- The definitions, computed on worked examples.
use Rattle.std.specs.Prelude.{◌≡◌, ℕ, zero, suc, ◌-◌, Bool, true, false, List, [], ◌∷◌, Some, None, nat_eq, slice_get, refl}
use Rattle.std.specs.Option.{option_map_or}
use Rattle.std.specs.List.{IsDistinct}
use Rattle.std.proofs.Common.{arith, ap, inl}
use Rattle.std.proofs.lemmas.Bool.Decides.{nat_tests}
use Rattle.giputils_hash.specs.Hash.{get}
use Rattle.giputils_index.specs.Allocator.{value_at, mark_at, live_at, live_count, live_slots, mark, write, survivors, unmarked_slots, new_index, index_map, table_at, IsIndexMap, IsIndexTable, Renumbers, TakesValue}
use Rattle.giputils_index.specs.AllocatorRun.{Answers}
use Rattle.giputils_index.proofs.Renumbering.{Renumbers-index_map}
use Rattle.giputils_index.specs.declared.allocator.run.GallocCall.{GallocCall}
use Rattle.giputils_index.specs.declared.allocator.run.GallocCall.TheVariants.{Alloc, Dealloc, IsRemoved, Read, Write, Gc, Len}
use Rattle.giputils_index.specs.declared.allocator.run.GallocReply.{GallocReply}
use Rattle.giputils_index.specs.declared.allocator.run.GallocReply.TheVariants.{Index, Done, Flag, Value, Map, Length, Skipped}

-- an allocator of three values, with the middle one marked

slots : List (ℕ × Bool)
slots = (10, false) ∷ (20, true) ∷ (30, false) ∷ []

a_slot_is_marked : mark {T = ℕ} ((10, false) ∷ (20, false) ∷ (30, false) ∷ []) 1 ≡ (10, false) ∷ (20, true) ∷ (30, false) ∷ []
a_slot_is_marked = refl

a_marked_slot_stays_marked : mark {T = ℕ} ((10, false) ∷ (20, true) ∷ []) 1 ≡ (10, false) ∷ (20, true) ∷ []
a_marked_slot_stays_marked = refl

a_marked_value_is_written : write {T = ℕ} ((10, false) ∷ (20, true) ∷ []) 1 21 ≡ (10, false) ∷ (21, true) ∷ []
a_marked_value_is_written = refl

a_marked_value_is_read : value_at {T = ℕ} ((10, false) ∷ (20, true) ∷ []) 1 ≡ Some 20
a_marked_value_is_read = refl

a_mark_is_read : mark_at {T = ℕ} ((10, false) ∷ (20, true) ∷ []) 1 ≡ Some true
a_mark_is_read = refl

a_live_value_is_read : live_at {T = ℕ} ((10, false) ∷ (20, true) ∷ []) 0 ≡ Some 10
a_live_value_is_read = refl

a_marked_one_is_not : live_at {T = ℕ} ((10, false) ∷ (20, true) ∷ []) 1 ≡ None
a_marked_one_is_not = refl

two_are_live : live_count slots ≡ 2
unfolding slots
two_are_live = refl

each_live_value_has_its_index : live_slots 0 slots ≡ (0, 10) ∷ (2, 30) ∷ []
unfolding slots
each_live_value_has_its_index = refl

a_marked_one_is_passed_over : live_slots {T = ℕ} 0 ((10, true) ∷ (20, false) ∷ []) ≡ (0, 10) ∷ (1, 20) ∷ [] → ⊥
a_marked_one_is_passed_over same = cc

two_survive : survivors slots ≡ 10 ∷ 30 ∷ []
unfolding slots
two_survive = refl

they_are_unmarked : unmarked_slots (survivors slots) ≡ (10, false) ∷ (30, false) ∷ []
unfolding slots
they_are_unmarked = refl

one_survives_before_the_last : new_index slots 2 ≡ 1
unfolding slots
one_survives_before_the_last = refl

the_last_moves_up : index_map slots 2 ≡ Some 1
unfolding slots
the_last_moves_up = refl

the_marked_one_has_no_new_index : index_map slots 1 ≡ None
unfolding slots
the_marked_one_has_no_new_index = refl

-- the map of two entries that a collection of three slots answers
two_entries : (i : ℕ) → get {V = ℕ} nat_eq ((0, 0) ∷ (2, 1) ∷ []) i ≡ index_map slots i
unfolding slots
two_entries zero = refl
two_entries (suc zero) = refl
two_entries (suc (suc zero)) = refl
two_entries (suc (suc (suc i))) = grind (arith, nat_tests)

it_is_the_index_map : IsIndexMap slots ((0, 0) ∷ (2, 1) ∷ [])
unfolding IsDistinct
it_is_the_index_map = (two_entries, ((refl, tt), (tt, tt)))

the_empty_map_is_not : IsIndexMap slots [] → ⊥
unfolding slots
the_empty_map_is_not is_map = let first = is_map.0 0 in cc

three_entries : (i : ℕ) → table_at (Some 0 ∷ None ∷ Some 1 ∷ []) i ≡ index_map slots i
unfolding slots
three_entries zero = refl
three_entries (suc zero) = refl
three_entries (suc (suc zero)) = refl
three_entries (suc (suc (suc i))) = refl

it_is_the_index_table : IsIndexTable slots (Some 0 ∷ None ∷ Some 1 ∷ [])
unfolding slots
it_is_the_index_table = (three_entries, refl)

a_shorter_table_is_not : IsIndexTable slots (Some 0 ∷ []) → ⊥
unfolding slots
a_shorter_table_is_not is_table = let last = is_table.0 2 in cc

it_renumbers_the_slots : Renumbers slots ((10, false) ∷ (30, false) ∷ []) (index_map slots)
unfolding slots
it_renumbers_the_slots = Renumbers-index_map slots

dropping_a_live_value_does_not : Renumbers {T = ℕ} ((10, false) ∷ []) [] (λ i. None) → ⊥
dropping_a_live_value_does_not renumbers = let kept = (renumbers.kept 0).1 refl in cc

nor_does_keeping_a_marked_one : Renumbers {T = ℕ} ((10, true) ∷ []) ((10, false) ∷ []) (λ i. Some i) → ⊥
nor_does_keeping_a_marked_one renumbers = let dropped = (renumbers.kept 0).0 refl in cc

nor_does_exchanging_two : Renumbers {T = ℕ} ((10, false) ∷ (20, false) ∷ []) ((20, false) ∷ (10, false) ∷ []) (λ i. Some (1 - i)) → ⊥
nor_does_exchanging_two renumbers = let apart = renumbers.increasing 0 1 1 0 refl refl (omega arith) in omega arith

-- what `take` leaves

a_default_is_left : TakesValue {T = ℕ} (λ v. v ≡ 0) 1 ((10, false) ∷ (20, false) ∷ []) ((10, false) ∷ (0, true) ∷ [])
a_default_is_left = (0, refl, refl)

the_value_is_not_left : TakesValue {T = ℕ} (λ v. v ≡ 0) 0 ((10, false) ∷ []) ((10, true) ∷ []) → ⊥
the_value_is_not_left takes =
    let zero = takes.1 in
    let same : 10 ≡ takes.0 = ap (λ slots. option_map_or (λ slot. slot.0) (slice_get slots 0) 0) takes.2 in
    omega arith

an_unmarked_slot_is_not_taken : TakesValue {T = ℕ} (λ v. v ≡ 0) 0 ((10, false) ∷ []) ((0, false) ∷ []) → ⊥
an_unmarked_slot_is_not_taken takes = let same = ap (λ slots. mark_at slots 0) takes.2 in cc

-- the values that fill holes from the end are not the survivors
holes_are_not_filled_from_the_end : survivors {T = ℕ} ((1, true) ∷ (2, false) ∷ (3, false) ∷ []) ≡ 3 ∷ 2 ∷ [] → ⊥
holes_are_not_filled_from_the_end same = cc

-- runs

the_calls : List (GallocCall ℕ)
the_calls = Alloc 10 ∷ Alloc 20 ∷ Alloc 30 ∷ Dealloc 0 ∷ Gc ∷ Read 0 ∷ Write 1 5 ∷ Read 1 ∷ IsRemoved 2 ∷ Len ∷ []

the_replies : List (GallocReply ℕ ℕ)
the_replies = Index 0 ∷ Index 1 ∷ Index 2 ∷ Done ∷ Map ((1, 0) ∷ (2, 1) ∷ []) ∷ Value 20 ∷ Done ∷ Value 5 ∷ Skipped ∷ Length 2 ∷ []

the_first_is_gone : (i : ℕ) → get {V = ℕ} nat_eq ((1, 0) ∷ (2, 1) ∷ []) i ≡ index_map {T = ℕ} ((10, true) ∷ (20, false) ∷ (30, false) ∷ []) i
the_first_is_gone zero = refl
the_first_is_gone (suc zero) = refl
the_first_is_gone (suc (suc zero)) = refl
the_first_is_gone (suc (suc (suc i))) = grind (arith, nat_tests)

the_calls_are_answered_so : Answers {T = ℕ} {A = ℕ} [] the_calls the_replies ((20, false) ∷ (5, false) ∷ [])
unfolding the_calls the_replies IsDistinct
the_calls_are_answered_so =
    (inl refl, (inl refl, (inl refl, (refl, (inl ((1, 0) ∷ (2, 1) ∷ [], refl, (the_first_is_gone, ((refl, tt), (tt, tt)))), (refl, (refl, (refl, (refl, (refl, refl))))))))))

a_marked_slot_is_written_and_read :
    Answers {T = ℕ} {A = ℕ} [] (Alloc 1 ∷ Dealloc 0 ∷ Write 0 2 ∷ IsRemoved 0 ∷ Read 0 ∷ Dealloc 1 ∷ []) (Index 0 ∷ Done ∷ Done ∷ Flag true ∷ Value 2 ∷ Skipped ∷ []) ((2, true) ∷ [])
a_marked_slot_is_written_and_read = (inl refl, (refl, (refl, (refl, (refl, (refl, refl))))))

another_value_is_no_answer : Answers {T = ℕ} {A = ℕ} [] (Alloc 1 ∷ Read 0 ∷ []) (Index 0 ∷ Value 2 ∷ []) ((1, false) ∷ []) → ⊥
another_value_is_no_answer answers = let read = answers.1.0 in cc

every_call_has_a_reply : Answers {T = ℕ} {A = ℕ} [] (Len ∷ []) [] [] → ⊥
every_call_has_a_reply answers = answers
