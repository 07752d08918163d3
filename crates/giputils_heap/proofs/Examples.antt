-- The definitions of a run on short records, computed by the check: records that a heap may have, and one for each way to
-- answer wrongly.
use Rattle.std.proofs.Common.{◌≡◌, ◌≢◌, ℕ, ◌+◌, Bool, true, false, ◌||◌, List, [], ◌∷◌, Some, None, refl, ap, sym, arith}
use Rattle.std.specs.Prelude.{◌%◌, ◌==◌, is_some}
use Rattle.std.specs.List.{IsDistinct}
use Rattle.std.proofs.lemmas.Bool.{false≢true, ne_eqb}
use Rattle.std.proofs.lemmas.List.Sorted.{IsPermutation-refl, IsPermutation-to_front, length_permutation}
use Rattle.std.specs.Ordering.{nat_cmp}
use Rattle.giputils_bounded.specs.Prelude.{Builds, CanRepair, Drains, HasFallen, HasRisen, HoldsAllBut, HoldsWithin, PushesOrUpdates, agrees_except, by_number, by_ord, by_rank, drain_bound, floor_log2, has_no_ties, is_descending, is_lawful, is_total, is_transitive, reverse_of}
use Rattle.giputils_heap.specs.Record.{Entry, start, answers_from, is_steady, keeps_counts_from, record_of, held_before, KeepsSteps}
use Rattle.giputils_heap.specs.Extended.{Extends}
use Rattle.giputils_heap.specs.Laws.{PopUntilNone, ListsDownward}
use Rattle.giputils_heap.specs.Priorities.{Prioritized, filled_up, priority_of, with_priority, ChangesAt, IsFirst, Joins}
use Rattle.giputils_bounded.proofs.HoldAlike.{HoldsAllBut-taken, HoldsWithin-cons}
use Rattle.giputils_bounded.proofs.OrderLaws.{IsInOrder-empty}
use Rattle.giputils_heap.specs.declared.run.HeapCall.{HeapCall}
use Rattle.giputils_heap.specs.declared.run.HeapCall.TheVariants.{Push, Pop, Up, Down, Update, Rebuild, Clear, Len, IsEmpty}
use Rattle.giputils_heap.specs.declared.run.HeapReply.{HeapReply}
use Rattle.giputils_heap.specs.declared.run.HeapStep.{HeapStep}
use Rattle.giputils_heap.specs.declared.run.HeapReply.TheVariants.{Done, Refused, Skipped, Popped, Length, Empty}

-- comparers of numbers: the greater is at least the smaller, the other way round, any is at least any, none is at least any,
-- of each three in turn one is at least itself and the one before, and by ranks
data Comparer : Type 0 where
  greater smaller either neither circle : Comparer
  ranked : List ℕ → Comparer

abbrev number : ℕ → ℕ
number k = k

abbrev at_least : Comparer → ℕ → ℕ → Bool
at_least greater = by_number number
at_least smaller = reverse_of (by_number number)
at_least either = λ s o. true
at_least neither = λ s o. false
at_least circle = λ s o. (s % 3 == o % 3) || (s % 3 == (o % 3 + 1) % 3)
at_least (ranked ranks) = by_rank number ranks

-- a step under a comparer that compares nothing, with its reply
abbrev step : Comparer → HeapCall ℕ → HeapReply ℕ → Entry ℕ Comparer
step c call reply = record { call = call; comparer = c; comparisons = 0; reply = reply }

-- whether a record of numbers answers
abbrev answers : List (Entry ℕ Comparer) → Bool
answers entries = answers_from number at_least start entries

-- ---- records that a heap may have

empty_run : answers [] ≡ true
empty_run = refl

pop_of_nothing : answers (step greater Pop (Popped None) ∷ []) ≡ true
pop_of_nothing = refl

abbrev smallest_first : List (Entry ℕ Comparer)
smallest_first =
    step smaller (Push 3) Done ∷ step smaller (Push 2) Done ∷ step smaller (Push 4) Done ∷ step smaller (Push 5) Done
    ∷ step smaller (Push 1) Done ∷ step smaller Pop (Popped (Some 1)) ∷ step smaller Pop (Popped (Some 2))
    ∷ step smaller Pop (Popped (Some 3)) ∷ step smaller Pop (Popped (Some 4)) ∷ step smaller Pop (Popped (Some 5))
    ∷ step smaller Pop (Popped None) ∷ []

pops_the_smallest_first : answers smallest_first ≡ true
pops_the_smallest_first = refl

pushed_twice : answers (
    step greater (Push 0) Done ∷ step greater (Push 1) Done ∷ step greater (Push 0) Done ∷ step greater Len (Length 2) ∷ []
    ) ≡ true
pushed_twice = refl

pushed_after_clear : answers (
    step greater (Push 7) Done ∷ step greater Clear Done ∷ step greater IsEmpty (Empty true) ∷ step greater (Push 7) Done
    ∷ step greater Pop (Popped (Some 7)) ∷ step greater Pop (Popped None) ∷ []
    ) ≡ true
pushed_after_clear = refl

-- under a comparer by which any key is at least any other, the keys may come in any order
any_order : answers (
    step either (Push 0) Done ∷ step either (Push 1) Done ∷ step either (Push 2) Done ∷ step either Len (Length 3)
    ∷ step either Pop (Popped (Some 1)) ∷ step either Pop (Popped (Some 0)) ∷ step either Pop (Popped (Some 2))
    ∷ step either Pop (Popped None) ∷ []
    ) ≡ true
any_order = refl

-- a push may be refused memory, and is then as if it had not been made
refused_push : answers (step greater (Push 3) Refused ∷ step greater Pop (Popped None) ∷ []) ≡ true
refused_push = refl

-- the greatest number of all is no key
no_key : answers (step greater (Push 4294967295) Skipped ∷ step greater Len (Length 0) ∷ []) ≡ true
no_key = refl

-- where the comparisons changed among held keys, any held key may come
changed_comparer : answers (
    step greater (Push 1) Done ∷ step greater (Push 2) Done ∷ step smaller Pop (Popped (Some 2)) ∷ []
    ) ≡ true
changed_comparer = refl

-- ---- records that no heap may have

pops_a_smaller_key : answers (
    step greater (Push 1) Done ∷ step greater (Push 2) Done ∷ step greater Pop (Popped (Some 1)) ∷ []
    ) ≡ false
pops_a_smaller_key = refl

-- once nothing was held, what was compared before does not excuse it
pops_a_smaller_key_once_empty : answers (
    step greater (Push 1) Done ∷ step smaller Clear Done ∷ step smaller (Push 1) Done ∷ step smaller (Push 2) Done
    ∷ step smaller Pop (Popped (Some 2)) ∷ []
    ) ≡ false
pops_a_smaller_key_once_empty = refl

pops_a_key_not_held : answers (step either (Push 1) Done ∷ step either Pop (Popped (Some 2)) ∷ []) ≡ false
pops_a_key_not_held = refl

pops_nothing_though_a_key_is_held : answers (step greater (Push 1) Done ∷ step greater Pop (Popped None) ∷ []) ≡ false
pops_nothing_though_a_key_is_held = refl

pops_a_key_twice : answers (
    step greater (Push 1) Done ∷ step greater Pop (Popped (Some 1)) ∷ step greater Pop (Popped (Some 1)) ∷ []
    ) ≡ false
pops_a_key_twice = refl

counts_a_key_twice : answers (
    step greater (Push 1) Done ∷ step greater (Push 1) Done ∷ step greater Len (Length 2) ∷ []
    ) ≡ false
counts_a_key_twice = refl

skips_an_ordinary_key : answers (step greater (Push 4294967294) Skipped ∷ []) ≡ false
skips_an_ordinary_key = refl

refuses_a_held_key : answers (step greater (Push 1) Done ∷ step greater (Push 1) Refused ∷ []) ≡ false
refuses_a_held_key = refl

holds_what_is_no_key : answers (step greater (Push 4294967295) Done ∷ []) ≡ false
holds_what_is_no_key = refl

is_empty_with_a_key : answers (step greater (Push 1) Done ∷ step greater IsEmpty (Empty true) ∷ []) ≡ false
is_empty_with_a_key = refl

answers_another_call : answers (step greater Len Done ∷ []) ≡ false
answers_another_call = refl

-- ---- changed ranks

-- the rank of key 0 falls from 5 to 1, and is made good by an Update
abbrev updated : HeapReply ℕ → List (Entry ℕ Comparer)
updated reply =
    step (ranked (5 ∷ 3 ∷ 4 ∷ [])) (Push 0) Done ∷ step (ranked (5 ∷ 3 ∷ 4 ∷ [])) (Push 1) Done
    ∷ step (ranked (5 ∷ 3 ∷ 4 ∷ [])) (Push 2) Done ∷ step (ranked (1 ∷ 3 ∷ 4 ∷ [])) (Update 0) Done
    ∷ step (ranked (1 ∷ 3 ∷ 4 ∷ [])) Pop reply ∷ []

pops_by_new_ranks_after_an_update : answers (updated (Popped (Some 2))) ≡ true
pops_by_new_ranks_after_an_update = refl

pops_a_smaller_key_after_an_update : answers (updated (Popped (Some 1))) ≡ false
pops_a_smaller_key_after_an_update = refl

pops_by_old_ranks_after_an_update : answers (updated (Popped (Some 0))) ≡ false
pops_by_old_ranks_after_an_update = refl

-- the rank of key 0 falls from 5 to 1 at this call: popping it next is what no heap may do where the step is steady
abbrev fallen_at : HeapCall ℕ → HeapReply ℕ → List (Entry ℕ Comparer)
fallen_at call reply =
    step (ranked (5 ∷ 3 ∷ 4 ∷ [])) (Push 0) Done ∷ step (ranked (5 ∷ 3 ∷ 4 ∷ [])) (Push 1) Done
    ∷ step (ranked (5 ∷ 3 ∷ 4 ∷ [])) (Push 2) Done ∷ step (ranked (1 ∷ 3 ∷ 4 ∷ [])) call Done
    ∷ step (ranked (1 ∷ 3 ∷ 4 ∷ [])) Pop reply ∷ []

-- a Down of the key makes it good
pops_by_new_ranks_after_a_down : answers (fallen_at (Down 0) (Popped (Some 2))) ≡ true
pops_by_new_ranks_after_a_down = refl

pops_by_old_ranks_after_a_down : answers (fallen_at (Down 0) (Popped (Some 0))) ≡ false
pops_by_old_ranks_after_a_down = refl

-- an Up of a key that has fallen does not: any held key may come
fallen_at_an_up : answers (fallen_at (Up 0) (Popped (Some 0))) ≡ true
fallen_at_an_up = refl

-- nor does a Down of another key
fallen_at_another_key : answers (fallen_at (Down 1) (Popped (Some 0))) ≡ true
fallen_at_another_key = refl

-- the rank of key 1 rises from 3 to 9 at this call
abbrev risen_at : HeapCall ℕ → HeapReply ℕ → List (Entry ℕ Comparer)
risen_at call reply =
    step (ranked (5 ∷ 3 ∷ 4 ∷ [])) (Push 0) Done ∷ step (ranked (5 ∷ 3 ∷ 4 ∷ [])) (Push 1) Done
    ∷ step (ranked (5 ∷ 3 ∷ 4 ∷ [])) (Push 2) Done ∷ step (ranked (5 ∷ 9 ∷ 4 ∷ [])) call Done
    ∷ step (ranked (5 ∷ 9 ∷ 4 ∷ [])) Pop reply ∷ []

-- an Up of the key makes it good
pops_by_new_ranks_after_an_up : answers (risen_at (Up 1) (Popped (Some 1))) ≡ true
pops_by_new_ranks_after_an_up = refl

pops_by_old_ranks_after_an_up : answers (risen_at (Up 1) (Popped (Some 0))) ≡ false
pops_by_old_ranks_after_an_up = refl

-- a Down of a key that has risen does not, nor does an Up of another key
risen_at_a_down : answers (risen_at (Down 1) (Popped (Some 0))) ≡ true
risen_at_a_down = refl

risen_at_another_key : answers (risen_at (Up 0) (Popped (Some 0))) ≡ true
risen_at_another_key = refl

-- where nothing changed, either is as good as the other, also of a key that is not held
unchanged_at_an_up_and_a_down : answers (
    step greater (Push 1) Done ∷ step greater (Push 2) Done ∷ step greater (Up 1) Done ∷ step greater (Down 3) Done
    ∷ step greater Pop (Popped (Some 1)) ∷ []
    ) ≡ false
unchanged_at_an_up_and_a_down = refl

-- two keys that rise at once are not made good by the Up of one
two_keys_risen_at_once : answers (
    step (ranked (5 ∷ 3 ∷ 4 ∷ [])) (Push 0) Done ∷ step (ranked (5 ∷ 3 ∷ 4 ∷ [])) (Push 1) Done
    ∷ step (ranked (5 ∷ 3 ∷ 4 ∷ [])) (Push 2) Done ∷ step (ranked (5 ∷ 9 ∷ 8 ∷ [])) (Up 1) Done
    ∷ step (ranked (5 ∷ 9 ∷ 8 ∷ [])) Pop (Popped (Some 0)) ∷ []
    ) ≡ true
two_keys_risen_at_once = refl

-- an Update of another key makes nothing good
updated_another_key : answers (fallen_at (Update 1) (Popped (Some 0))) ≡ true
updated_another_key = refl

updated_that_key : answers (fallen_at (Update 0) (Popped (Some 0))) ≡ false
updated_that_key = refl

-- four keys of ranks 10, 8, 2, 6
abbrev four_keys : List (Entry ℕ Comparer) → List (Entry ℕ Comparer)
four_keys steps =
    step (ranked (10 ∷ 8 ∷ 2 ∷ 6 ∷ [])) (Push 0) Done ∷ step (ranked (10 ∷ 8 ∷ 2 ∷ 6 ∷ [])) (Push 1) Done
    ∷ step (ranked (10 ∷ 8 ∷ 2 ∷ 6 ∷ [])) (Push 2) Done ∷ step (ranked (10 ∷ 8 ∷ 2 ∷ 6 ∷ [])) (Push 3) Done ∷ steps

-- where two ranks change at once, updates of the two keys owe no order: key 2 of rank 2 may come before key 3 of rank 6
two_keys_changed_at_once : answers (
    four_keys (
    step (ranked (1 ∷ 0 ∷ 2 ∷ 6 ∷ [])) (Update 0) Done ∷ step (ranked (1 ∷ 0 ∷ 2 ∷ 6 ∷ [])) (Update 1) Done
    ∷ step (ranked (1 ∷ 0 ∷ 2 ∷ 6 ∷ [])) Pop (Popped (Some 2)) ∷ []
    )
    ) ≡ true
two_keys_changed_at_once = refl

-- changed one after the other they do
abbrev two_keys_changed_in_turn : HeapReply ℕ → List (Entry ℕ Comparer)
two_keys_changed_in_turn reply =
    four_keys (
    step (ranked (1 ∷ 8 ∷ 2 ∷ 6 ∷ [])) (Update 0) Done ∷ step (ranked (1 ∷ 0 ∷ 2 ∷ 6 ∷ [])) (Update 1) Done
    ∷ step (ranked (1 ∷ 0 ∷ 2 ∷ 6 ∷ [])) Pop reply ∷ []
    )

pops_the_greatest_of_four : answers (two_keys_changed_in_turn (Popped (Some 3))) ≡ true
pops_the_greatest_of_four = refl

pops_another_of_four : answers (two_keys_changed_in_turn (Popped (Some 2))) ≡ false
pops_another_of_four = refl

-- a Rebuild makes good what changed before it, however many keys it was
abbrev rebuilt : List (Entry ℕ Comparer) → HeapReply ℕ → List (Entry ℕ Comparer)
rebuilt steps reply =
    four_keys (
    step (ranked (1 ∷ 0 ∷ 2 ∷ 6 ∷ [])) (Update 0) Done ∷ step (ranked (1 ∷ 0 ∷ 2 ∷ 6 ∷ [])) (Update 1) Done
    ∷ step (ranked (1 ∷ 0 ∷ 2 ∷ 6 ∷ [])) Rebuild Done ∷ step (ranked (1 ∷ 0 ∷ 2 ∷ 6 ∷ [])) Pop reply ∷ steps
    )

pops_the_greatest_after_a_rebuild : answers (rebuilt [] (Popped (Some 3))) ≡ true
pops_the_greatest_after_a_rebuild = refl

pops_a_smaller_key_after_a_rebuild : answers (rebuilt [] (Popped (Some 2))) ≡ false
pops_a_smaller_key_after_a_rebuild = refl

-- it is steady, though the step before it is not
steady_at_a_rebuild : is_steady number at_least (rebuilt [] (Popped (Some 3))) 6 ≡ true
steady_at_a_rebuild = refl

unsteady_before_a_rebuild : is_steady number at_least (rebuilt [] (Popped (Some 3))) 5 ≡ false
unsteady_before_a_rebuild = refl

-- ranks that change after it are not made good
changed_after_a_rebuild : answers (rebuilt (step (ranked (5 ∷ 7 ∷ 6 ∷ [])) Pop (Popped (Some 0)) ∷ []) (Popped (Some 3))) ≡ true
changed_after_a_rebuild = refl

unchanged_after_a_rebuild : answers (rebuilt (step (ranked (1 ∷ 0 ∷ 2 ∷ 6 ∷ [])) Pop (Popped (Some 0)) ∷ []) (Popped (Some 3))) ≡ false
unchanged_after_a_rebuild = refl

-- nor does it owe order under a comparer without laws
rebuilt_without_laws : answers (
    step greater (Push 1) Done ∷ step greater (Push 2) Done ∷ step neither Rebuild Done ∷ step neither Pop (Popped (Some 1)) ∷ []
    ) ≡ true
rebuilt_without_laws = refl

rebuilt_with_laws : answers (
    step neither (Push 1) Done ∷ step neither (Push 2) Done ∷ step greater Rebuild Done ∷ step greater Pop (Popped (Some 1)) ∷ []
    ) ≡ false
rebuilt_with_laws = refl

rebuild_of_nothing : answers (step greater Rebuild Done ∷ step greater Len (Length 0) ∷ []) ≡ true
rebuild_of_nothing = refl

loses_a_key_at_a_rebuild : answers (step either (Push 1) Done ∷ step either Rebuild Done ∷ step either Len (Length 0) ∷ []) ≡ false
loses_a_key_at_a_rebuild = refl

refuses_a_rebuild : answers (step greater (Push 1) Done ∷ step greater Rebuild Refused ∷ []) ≡ false
refuses_a_rebuild = refl

-- a key that is not held may be handed in
not_held_is_done : answers (step greater (Up 3) Done ∷ step greater (Down 3) Done ∷ step greater (Update 4294967295) Done ∷ []) ≡ true
not_held_is_done = refl

refuses_an_update : answers (step greater (Push 1) Done ∷ step greater (Update 1) Refused ∷ []) ≡ false
refuses_an_update = refl

pops_at_an_up : answers (step greater (Push 1) Done ∷ step greater (Up 1) (Popped (Some 1)) ∷ []) ≡ false
pops_at_an_up = refl

skips_a_down : answers (step greater (Down 4294967295) Skipped ∷ []) ≡ false
skips_a_down = refl

loses_a_key_at_an_up : answers (step either (Push 1) Done ∷ step either (Up 1) Done ∷ step either Len (Length 0) ∷ []) ≡ false
loses_a_key_at_an_up = refl

-- ---- counts: the bound of each call, and one comparison too many

-- a step that compares so often
abbrev counted : HeapCall ℕ → HeapReply ℕ → ℕ → Entry ℕ Comparer
counted call reply n = record { call = call; comparer = greater; comparisons = n; reply = reply }

-- whether a call that compares so often keeps the counts, where the keys 0 to 6 are held
abbrev keeps_counts_at_seven : HeapCall ℕ → HeapReply ℕ → ℕ → Bool
keeps_counts_at_seven call reply n =
    keeps_counts_from number [] (
    counted (Push 0) Done 0 ∷ counted (Push 1) Done 1 ∷ counted (Push 2) Done 1 ∷ counted (Push 3) Done 2
    ∷ counted (Push 4) Done 2 ∷ counted (Push 5) Done 2 ∷ counted (Push 6) Done 2 ∷ counted call reply n ∷ []
    )

push_at_its_bound : keeps_counts_at_seven (Push 7) Done 3 ≡ true
unfolding floor_log2
push_at_its_bound = refl

push_past_its_bound : keeps_counts_at_seven (Push 7) Done 4 ≡ false
unfolding floor_log2
push_past_its_bound = refl

push_of_a_held_key_compares_nothing : keeps_counts_at_seven (Push 6) Done 1 ≡ false
unfolding floor_log2
push_of_a_held_key_compares_nothing = refl

push_of_no_key_compares_nothing : keeps_counts_at_seven (Push 4294967295) Skipped 1 ≡ false
unfolding floor_log2
push_of_no_key_compares_nothing = refl

pop_at_its_bound : keeps_counts_at_seven Pop (Popped (Some 6)) 4 ≡ true
unfolding floor_log2
pop_at_its_bound = refl

pop_past_its_bound : keeps_counts_at_seven Pop (Popped (Some 6)) 5 ≡ false
unfolding floor_log2
pop_past_its_bound = refl

up_at_its_bound : keeps_counts_at_seven (Up 6) Done 2 ≡ true
unfolding floor_log2
up_at_its_bound = refl

up_past_its_bound : keeps_counts_at_seven (Up 6) Done 3 ≡ false
unfolding floor_log2
up_past_its_bound = refl

down_at_its_bound : keeps_counts_at_seven (Down 6) Done 4 ≡ true
unfolding floor_log2
down_at_its_bound = refl

down_past_its_bound : keeps_counts_at_seven (Down 6) Done 5 ≡ false
unfolding floor_log2
down_past_its_bound = refl

update_at_its_bound : keeps_counts_at_seven (Update 6) Done 4 ≡ true
unfolding floor_log2
update_at_its_bound = refl

update_past_its_bound : keeps_counts_at_seven (Update 6) Done 5 ≡ false
unfolding floor_log2
update_past_its_bound = refl

update_of_a_key_not_held_compares_nothing : keeps_counts_at_seven (Update 7) Done 1 ≡ false
unfolding floor_log2
update_of_a_key_not_held_compares_nothing = refl

rebuild_at_its_bound : keeps_counts_at_seven Rebuild Done 14 ≡ true
unfolding floor_log2
rebuild_at_its_bound = refl

rebuild_past_its_bound : keeps_counts_at_seven Rebuild Done 15 ≡ false
unfolding floor_log2
rebuild_past_its_bound = refl

rebuild_of_nothing_compares_nothing : keeps_counts_from number [] (counted Rebuild Done 1 ∷ []) ≡ false
unfolding floor_log2
rebuild_of_nothing_compares_nothing = refl

len_compares_nothing : keeps_counts_at_seven Len (Length 7) 1 ≡ false
unfolding floor_log2
len_compares_nothing = refl

pop_of_nothing_compares_nothing : keeps_counts_from number [] (counted Pop (Popped None) 1 ∷ []) ≡ false
unfolding floor_log2
pop_of_nothing_compares_nothing = refl

-- the whole logarithm rounds down: 2^3 is at most 15, and 2^4 at most 16
below_a_power : floor_log2 15 ≡ 3
unfolding floor_log2
below_a_power = refl

at_a_power : floor_log2 16 ≡ 4
unfolding floor_log2
at_a_power = refl

of_one_and_of_nothing : floor_log2 1 + floor_log2 0 ≡ 0
unfolding floor_log2
of_one_and_of_nothing = refl

-- ---- one changed key

-- the rank of key 0 falls from 5 to 1: the relations agree but for it, and not but for another
agrees_except_the_changed_key : agrees_except number 0 (at_least (ranked (5 ∷ 3 ∷ 4 ∷ []))) (at_least (ranked (1 ∷ 3 ∷ 4 ∷ []))) (0 ∷ 1 ∷ 2 ∷ []) ≡ true
agrees_except_the_changed_key = refl

differs_at_another_key : agrees_except number 1 (at_least (ranked (5 ∷ 3 ∷ 4 ∷ []))) (at_least (ranked (1 ∷ 3 ∷ 4 ∷ []))) (0 ∷ 1 ∷ 2 ∷ []) ≡ false
differs_at_another_key = refl

-- it has fallen, and has not risen
has_fallen : HasFallen 0 (at_least (ranked (5 ∷ 3 ∷ 4 ∷ []))) (at_least (ranked (1 ∷ 3 ∷ 4 ∷ []))) (0 ∷ 1 ∷ 2 ∷ [])
has_fallen = refl

has_not_risen : HasRisen 0 (at_least (ranked (5 ∷ 3 ∷ 4 ∷ []))) (at_least (ranked (1 ∷ 3 ∷ 4 ∷ []))) (0 ∷ 1 ∷ 2 ∷ []) → ⊥
has_not_risen risen = false≢true risen

-- the other way round
has_risen : HasRisen 0 (at_least (ranked (1 ∷ 3 ∷ 4 ∷ []))) (at_least (ranked (5 ∷ 3 ∷ 4 ∷ []))) (0 ∷ 1 ∷ 2 ∷ [])
has_risen = refl

has_not_fallen : HasFallen 0 (at_least (ranked (1 ∷ 3 ∷ 4 ∷ []))) (at_least (ranked (5 ∷ 3 ∷ 4 ∷ []))) (0 ∷ 1 ∷ 2 ∷ []) → ⊥
has_not_fallen fallen = false≢true fallen

-- of keys 0 to 2 no two tie by number, and any two where each is at least any
no_ties_by_number : has_no_ties number (at_least greater) (0 ∷ 1 ∷ 2 ∷ []) ≡ true
no_ties_by_number = refl

all_tie : has_no_ties number (at_least either) (0 ∷ 1 ∷ 2 ∷ []) ≡ false
all_tie = refl

-- ---- lawful relations

-- ties are allowed
lawful_with_ties : is_lawful (at_least either) (0 ∷ 1 ∷ 2 ∷ []) ≡ true
lawful_with_ties = refl

-- a relation that says nothing of a key with itself is not total
not_total : is_total (at_least neither) (0 ∷ []) ≡ false
not_total = refl

-- of 0, 1 and 2 one of any two is at least the other, and yet they have no order
total_in_a_circle : is_total (at_least circle) (0 ∷ 1 ∷ 2 ∷ []) ≡ true
total_in_a_circle = refl

not_transitive_in_a_circle : is_transitive (at_least circle) (0 ∷ 1 ∷ 2 ∷ []) ≡ false
not_transitive_in_a_circle = refl

not_lawful_in_a_circle : is_lawful (at_least circle) (0 ∷ 1 ∷ 2 ∷ []) ≡ false
not_lawful_in_a_circle = refl

-- two of them have
lawful_on_two_of_a_circle : is_lawful (at_least circle) (0 ∷ 1 ∷ []) ≡ true
lawful_on_two_of_a_circle = refl

-- so a run under it owes no greatest key
popped_in_a_circle : answers (
    step circle (Push 0) Done ∷ step circle (Push 1) Done ∷ step circle (Push 2) Done ∷ step circle Pop (Popped (Some 1)) ∷ []
    ) ≡ true
popped_in_a_circle = refl

-- ---- the record of a run

-- a step that is lent the comparer by number, asked so often
abbrev asked : HeapCall ℕ → ℕ → HeapStep ℕ Comparer
asked call n = record { call = call; cmp = record { comparer = greater; count = n } }

-- each entry has the call, the comparer, what its counter has risen by, and the reply
recorded : record_of (asked (Push 3) 5 ∷ asked Len 0 ∷ []) (asked (Push 3) 7 ∷ asked Len 0 ∷ []) (Done ∷ Length 1 ∷ [])
    ≡ counted (Push 3) Done 2 ∷ counted Len (Length 1) 0 ∷ []
recorded = refl

-- a step that has no reply has no entry
recorded_short : record_of (asked Len 0 ∷ asked Pop 0 ∷ []) (asked Len 0 ∷ asked Pop 0 ∷ []) (Length 0 ∷ []) ≡ counted Len (Length 0) 0 ∷ []
recorded_short = refl

-- the keys that are held before a step: five were pushed, and then the least was popped
held_before_the_first : held_before number smallest_first 0 ≡ []
held_before_the_first = refl

held_before_the_pops : held_before number smallest_first 5 ≡ 1 ∷ 5 ∷ 4 ∷ 2 ∷ 3 ∷ []
held_before_the_pops = refl

held_after_a_pop : held_before number smallest_first 6 ≡ 5 ∷ 4 ∷ 2 ∷ 3 ∷ []
held_after_a_pop = refl

-- a step that compared twice is kept, and one that compares nothing
kept_steps : KeepsSteps (asked (Push 3) 5 ∷ asked Len 0 ∷ []) (asked (Push 3) 7 ∷ asked Len 0 ∷ [])
kept_steps = (
  record { call = refl; comparer = refl; rises = omega arith; comparisons = omega arith; uncompared = λ never. absurd (false≢true (sym never)) },
  (record { call = refl; comparer = refl; rises = omega arith; comparisons = omega arith; uncompared = λ _. refl }, tt),
)

-- a step whose call is another one is not
another_call_is_not_kept : KeepsSteps (asked Len 0 ∷ []) (asked Pop 0 ∷ []) → ⊥
another_call_is_not_kept kept = let same = kept.0.call in cc

-- nor is one that is lost, or that asked where its call compares nothing
a_lost_step_is_not_kept : KeepsSteps (asked Len 0 ∷ []) [] → ⊥
a_lost_step_is_not_kept kept = kept

an_asking_length_is_not_kept : KeepsSteps (asked Len 0 ∷ []) (asked Len 1 ∷ []) → ⊥
an_asking_length_is_not_kept kept = let same = kept.0.uncompared refl in omega (arith, same)

-- ---- steady steps, and keys listed downward

steady_under_one_comparer : is_steady number at_least smallest_first 10 ≡ true
steady_under_one_comparer = refl

unsteady_under_another : is_steady number at_least (
    step greater (Push 1) Done ∷ step greater (Push 2) Done ∷ step smaller Pop (Popped (Some 2)) ∷ []
    ) 2 ≡ false
unsteady_under_another = refl

-- a heap of one key is steady under any two lawful comparers
one_key_is_steady : is_steady number at_least (step greater (Push 1) Done ∷ step smaller (Push 2) Done ∷ []) 1 ≡ true
one_key_is_steady = refl

listed_downward : is_descending (at_least greater) (5 ∷ 4 ∷ 4 ∷ 1 ∷ []) ≡ true
listed_downward = refl

not_listed_downward : is_descending (at_least greater) (5 ∷ 1 ∷ 4 ∷ []) ≡ false
not_listed_downward = refl

-- two pops by number that answer 3, and then nothing
popped_until_none : PopUntilNone at_least (by_number number) (3 ∷ []) (step greater Pop (Popped (Some 3)) ∷ step greater Pop (Popped None) ∷ [])
popped_until_none = (
  record { call = refl; comparer = λ x y. refl; reply = refl },
  (record { call = refl; comparer = λ x y. refl; reply = refl }, tt),
)

-- the last of them has to answer nothing
not_popped_until_none : PopUntilNone at_least (by_number number) (3 ∷ []) (step greater Pop (Popped (Some 3)) ∷ []) → ⊥
not_popped_until_none popped = popped.1

-- keys listed downward are all of them, each once, each at least the next
lists_downward : ListsDownward number (by_number number) (3 ∷ 2 ∷ []) (3 ∷ 2 ∷ [])
unfolding IsDistinct
lists_downward = record { alike = λ q. refl; each_once = ((refl, tt), (tt, tt)); descending = refl }

lists_upward : ListsDownward number (by_number number) (3 ∷ 2 ∷ []) (2 ∷ 3 ∷ []) → ⊥
lists_upward lists = false≢true lists.descending

leaves_a_key_out : ListsDownward number (by_number number) (3 ∷ 2 ∷ []) (3 ∷ []) → ⊥
leaves_a_key_out lists = false≢true (lists.alike 2)

-- ---- ranks: the greater first, ties by number, and 0 past the table's end

greater_rank_first : at_least (ranked (5 ∷ 3 ∷ 4 ∷ [])) 0 2 ≡ true
greater_rank_first = refl

ties_go_by_number : at_least (ranked (3 ∷ 3 ∷ [])) 0 1 ≡ false
ties_go_by_number = refl

no_rank_past_the_end : at_least (ranked (0 ∷ 1 ∷ [])) 2 0 ≡ true
no_rank_past_the_end = refl

less_than_any_rank_past_the_end : at_least (ranked (0 ∷ 1 ∷ [])) 2 1 ≡ false
less_than_any_rank_past_the_end = refl

-- ---- ranks of any order

abbrev scores : List ℕ
scores = 7 ∷ 9 ∷ 7 ∷ []

by_a_greater_score : by_ord number nat_cmp scores 1 2 ≡ true
by_a_greater_score = refl

of_one_score_the_greater_number : by_ord number nat_cmp scores 2 0 ≡ true
of_one_score_the_greater_number = refl

not_the_smaller : by_ord number nat_cmp scores 0 2 ≡ false
not_the_smaller = refl

a_key_without_a_score_is_last : by_ord number nat_cmp scores 3 0 ≡ false
a_key_without_a_score_is_last = refl

-- ---- a repair

one_changed_rank : CanRepair number 1 (by_rank number (5 ∷ 3 ∷ [])) (by_rank number (5 ∷ 9 ∷ [])) (0 ∷ 1 ∷ [])
one_changed_rank = record { lawful = refl; agrees = refl; lawful_now = refl }

two_changed_ranks : CanRepair number 1 (by_rank number (5 ∷ 3 ∷ 4 ∷ [])) (by_rank number (4 ∷ 9 ∷ 5 ∷ [])) (0 ∷ 1 ∷ 2 ∷ []) → ⊥
two_changed_ranks can = false≢true can.agrees

-- ---- how often all keys may compare

of_eight_keys : drain_bound 8 ≡ 48
unfolding floor_log2
of_eight_keys = refl

-- ---- keys as sets

held_within : HoldsWithin number (2 ∷ []) (1 ∷ 2 ∷ [])
held_within = HoldsWithin-cons number 1 (2 ∷ []) (2 ∷ []) (λ q here. here)

one_is_not_within : HoldsWithin number (1 ∷ 2 ∷ []) (2 ∷ []) → ⊥
one_is_not_within within = false≢true (within 1 refl)

held_but_for_two : HoldsAllBut number 2 (2 ∷ 1 ∷ []) (1 ∷ [])
held_but_for_two = HoldsAllBut-taken number 2 (2 ∷ 1 ∷ []) (1 ∷ []) (IsPermutation-refl (2 ∷ 1 ∷ [])) refl

two_is_held_still : HoldsAllBut number 2 (2 ∷ 1 ∷ []) (2 ∷ 1 ∷ []) → ⊥
two_is_held_still but = false≢true (sym (but 2))

one_is_lost_too : HoldsAllBut number 2 (2 ∷ 1 ∷ []) [] → ⊥
one_is_lost_too but = false≢true (but 1)

-- ---- what calls come to

pushes_nothing : PushesOrUpdates number (by_number number) 3 [] [] → ⊥
pushes_nothing p = false≢true p.holds

pushes_another_key_too : PushesOrUpdates number (by_number number) 3 [] (3 ∷ 2 ∷ []) → ⊥
pushes_another_key_too p = false≢true (p.within 2 refl)

drained : Drains number (by_number number) (2 ∷ 3 ∷ []) (3 ∷ 2 ∷ [])
unfolding IsDistinct
drained = record {
  keys = IsPermutation-to_front (2 ∷ []) 3;
  each_once = ((refl, tt), (tt, tt));
  falling = λ ordered lawful. refl;
}

drains_a_key_less : Drains number (by_number number) (2 ∷ 3 ∷ []) (3 ∷ []) → ⊥
drains_a_key_less d = let same = length_permutation (2 ∷ 3 ∷ []) (3 ∷ []) d.keys in omega (arith, same)

built_of_nothing : Builds number (by_number number) [] []
built_of_nothing = record { alike = λ q. refl; len = refl; in_order = λ lawful. IsInOrder-empty (by_number number) }

builds_a_key_less : Builds number (by_number number) (2 ∷ 3 ∷ []) (3 ∷ []) → ⊥
builds_a_key_less b = false≢true (b.alike 2)

builds_another_key_too : Builds number (by_number number) (3 ∷ []) (3 ∷ 2 ∷ []) → ⊥
builds_another_key_too b = false≢true (sym (b.alike 2))

builds_a_key_twice : Builds number (by_number number) (3 ∷ 3 ∷ []) (3 ∷ 3 ∷ []) → ⊥
builds_a_key_twice b = let same = b.len in omega (arith, same)

-- ---- a queue with its priorities: 0 and 2 are held, and the table has one of 1 as well

abbrev queue : Prioritized ℕ ℕ
queue = record { keys = 2 ∷ 0 ∷ []; priorities = 5 ∷ 9 ∷ 7 ∷ []; comparisons = 1 }

held_with_seven : priority_of number queue 2 ≡ Some 7
held_with_seven = refl

in_the_table_alone : priority_of number queue 1 ≡ None
in_the_table_alone = refl

past_the_table : priority_of number queue 8 ≡ None
past_the_table = refl

zero_does_not_come_first : IsFirst number nat_cmp queue 0 5 → ⊥
zero_does_not_come_first first = false≢true (first.greatest 2 7 refl)

abbrev tied : Prioritized ℕ ℕ
tied = record { keys = 2 ∷ 0 ∷ []; priorities = 7 ∷ 9 ∷ 7 ∷ []; comparisons = 1 }

of_a_tie_zero_does_not : IsFirst number nat_cmp tied 0 7 → ⊥
of_a_tie_zero_does_not first = let most = first.ties 2 7 refl refl in omega (arith, most)

without_zero : (k : ℕ) → k ≢ 0
    → priority_of number (record { keys = 2 ∷ []; priorities = 5 ∷ 9 ∷ 7 ∷ []; comparisons = 1 }) k ≡ priority_of number queue k
without_zero k apart = rw (ne_eqb k 0 apart) refl

zero_is_taken_out : ChangesAt number 0 None queue (record { keys = 2 ∷ []; priorities = 5 ∷ 9 ∷ 7 ∷ []; comparisons = 1 })
zero_is_taken_out = record { here = refl; others = without_zero }

two_is_lost_too : ChangesAt number 0 None queue (record { keys = []; priorities = 5 ∷ 9 ∷ 7 ∷ []; comparisons = 1 }) → ⊥
two_is_lost_too changes = false≢true (ap is_some (changes.others 2 (λ same. omega (arith, same))))

filled : filled_up {P = ℕ} (5 ∷ []) 3 9 ≡ 5 ∷ 9 ∷ 9 ∷ 9 ∷ []
filled = refl

put_past_the_end : with_priority {P = ℕ} (5 ∷ []) 2 9 ≡ 5 ∷ 9 ∷ 9 ∷ []
put_past_the_end = refl

put_within : with_priority {P = ℕ} (5 ∷ 4 ∷ []) 0 9 ≡ 9 ∷ 4 ∷ []
put_within = refl

three_joins : Joins number 3 (2 ∷ []) (3 ∷ 2 ∷ [])
three_joins = record { moved = λ held. absurd (false≢true held); added = λ absent. IsPermutation-refl (3 ∷ 2 ∷ []); alike = λ q. refl }

nothing_joins : Joins number 3 (2 ∷ []) (2 ∷ []) → ⊥
nothing_joins joins = false≢true (joins.alike 3)

-- ---- a heap that was extended

extended_by_none : Extends number (by_number number) [] (3 ∷ []) (3 ∷ [])
extended_by_none = record { alike = λ q. refl; in_order = λ ordered lawful. ordered }

extended_by_another : Extends number (by_number number) (3 ∷ []) [] (3 ∷ 2 ∷ []) → ⊥
extended_by_another e = false≢true (sym (e.alike 2))

loses_two : Extends number (by_number number) (3 ∷ []) (2 ∷ []) (3 ∷ []) → ⊥
loses_two e = false≢true (e.alike 2)
