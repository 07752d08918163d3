-- The new indexes that a collection gives.
--
-- How it is proved: `length (filter p xs)` computes on a cons; `count_by` does not.
use Rattle.std.specs.Prelude.{◌≡◌, ◌↔◌, ℕ, zero, suc, ◌+◌, ◌<◌, ◌≤◌, Bool, true, false, not, List, [], ◌∷◌, length, map, filter, take, slice_index_or, Option, Some, None, IsSome, is_some, option_and_then, if◌then◌else◌, nat_eq, refl}
use Rattle.std.proofs.Common.{arith, ap, sym, ◌∙◌, cond}
use Rattle.std.specs.List.{filter_map, cons_option}
use Rattle.std.proofs.lemmas.List.{length-map, length-take}
use Rattle.std.proofs.lemmas.List.Filters.{length-filter_both, length-filter_more}
use Rattle.std.proofs.lemmas.Option.{slice_get_past}
use Rattle.giputils_hash.specs.Hash.{get}
use Rattle.giputils_index.specs.Allocator.{is_unmarked, value_at, mark_at, survivors, unmarked_slots, new_index, index_map, table_at, IsIndexMap, IsIndexTable, Renumbers}

module _ {T : Type 0} where
  -- an unmarked slot has a new index
  pub index_map-unmarked : (slots : List (T × Bool)) (i : ℕ) → mark_at slots i ≡ Some false → index_map slots i ≡ Some (new_index slots i)
  index_map-unmarked slots i e = rw e

  -- a marked slot has none
  pub index_map-marked : (slots : List (T × Bool)) (i : ℕ) → mark_at slots i ≡ Some true → index_map slots i ≡ None
  index_map-marked slots i e = rw e

  -- nor has a slot past the end
  pub index_map-past : (slots : List (T × Bool)) (i : ℕ) → length slots ≤ i → index_map slots i ≡ None
  index_map-past slots i past = rw (slice_get_past slots i past)

  -- a slot that has a new index is unmarked, and the index is the number of unmarked slots before it
  pub index_map_inverse : (slots : List (T × Bool)) (i m : ℕ) → index_map slots i ≡ Some m → (mark_at slots i ≡ Some false) × (m ≡ new_index slots i)
  index_map_inverse slots i m e = from_mark (mark_at slots i) e
    where
      from_mark : (o : Option Bool) → option_and_then (λ is_marked. if is_marked then None else Some (new_index slots i)) o ≡ Some m → (o ≡ Some false) × (m ≡ new_index slots i)
      from_mark None e = cc
      from_mark (Some true) e = cc
      from_mark (Some false) e = (refl, cc)

  -- no more slots survive before a place than there are
  pub new_index-le : (slots : List (T × Bool)) (i : ℕ) → new_index slots i ≤ i
  new_index-le slots i =
      omega (arith, length-map (filter is_unmarked (take i slots)) (λ slot. slot.0), length-filter_both is_unmarked (λ slot. slot.1) (λ slot. not_not slot.1) (take i slots), length-take i slots)
    where
      not_not : (b : Bool) → b ≡ not (not b)
      not_not true = refl
      not_not false = refl

  -- an unmarked slot counts for those behind it, and a marked one does not
  pub new_index-more : (slots : List (T × Bool)) (i : ℕ) (slot : T × Bool) → i < length slots
      → slot ≡ slice_index_or slots i slot → new_index slots (i + 1) ≡ new_index slots i + cond (is_unmarked slot) 1 0
  new_index-more slots i slot below is =
      length-map (filter is_unmarked (take (i + 1) slots)) (λ slot. slot.0)
      ∙ length-filter_more is_unmarked slots i slot below
      ∙ ap (λ n. n + cond (is_unmarked (slice_index_or slots i slot)) 1 0) (sym (length-map (filter is_unmarked (take i slots)) (λ slot. slot.0)))
      ∙ ap (λ s. new_index slots i + cond (is_unmarked s) 1 0) (sym is)

  -- the same of a slot whose mark is known
  pub new_index-suc : (slots : List (T × Bool)) (i : ℕ) (b : Bool) → mark_at slots i ≡ Some b → new_index slots (suc i) ≡ new_index slots i + cond b 0 1
  new_index-suc [] i b at = cc
  new_index-suc ((v, true) ∷ slots) zero true at = refl
  new_index-suc ((v, false) ∷ slots) zero false at = refl
  new_index-suc ((v, true) ∷ slots) zero false at = cc
  new_index-suc ((v, false) ∷ slots) zero true at = cc
  new_index-suc ((v, true) ∷ slots) (suc i) b at = new_index-suc slots i b at
  new_index-suc ((v, false) ∷ slots) (suc i) b at = ap (λ n. suc n) (new_index-suc slots i b at) ∙ omega arith

  pub new_index-next : (slots : List (T × Bool)) (i : ℕ) (b : Bool) → mark_at slots i ≡ Some b
      → new_index slots (i + 1) ≡ new_index slots i + cond b 0 1
  new_index-next slots i b at = let same : i + 1 ≡ suc i = omega arith in rw same (new_index-suc slots i b at)

  -- more unmarked slots stand before a later one
  pub new_index-lt : (slots : List (T × Bool)) (i j : ℕ) → mark_at slots i ≡ Some false → i < j → new_index slots i < new_index slots j
  new_index-lt [] i j at less = cc
  new_index-lt (s ∷ slots) zero zero at less = absurd (omega arith)
  new_index-lt ((v, true) ∷ slots) zero (suc j) at less = cc
  new_index-lt ((v, false) ∷ slots) zero (suc j) at less = omega arith
  new_index-lt (s ∷ slots) (suc i) zero at less = absurd (omega arith)
  new_index-lt ((v, true) ∷ slots) (suc i) (suc j) at less = new_index-lt slots i j at (omega arith)
  new_index-lt ((v, false) ∷ slots) (suc i) (suc j) at less = let later = new_index-lt slots i j at (omega arith) in omega arith

  -- fewer unmarked slots stand before an unmarked one than there are survivors
  pub new_index-lt_survivors : (slots : List (T × Bool)) (i : ℕ) → mark_at slots i ≡ Some false → new_index slots i < length (unmarked_slots (survivors slots))
  new_index-lt_survivors [] i at = cc
  new_index-lt_survivors ((v, true) ∷ slots) zero at = cc
  new_index-lt_survivors ((v, false) ∷ slots) zero at = omega arith
  new_index-lt_survivors ((v, true) ∷ slots) (suc i) at = new_index-lt_survivors slots i at
  new_index-lt_survivors ((v, false) ∷ slots) (suc i) at = let later = new_index-lt_survivors slots i at in omega arith

  -- the survivor at the new index of an unmarked slot has its value
  pub value_at-new_index : (slots : List (T × Bool)) (i : ℕ) → mark_at slots i ≡ Some false → value_at (unmarked_slots (survivors slots)) (new_index slots i) ≡ value_at slots i
  value_at-new_index [] i at = cc
  value_at-new_index ((v, true) ∷ slots) zero at = cc
  value_at-new_index ((v, false) ∷ slots) zero at = refl
  value_at-new_index ((v, true) ∷ slots) (suc i) at = value_at-new_index slots i at
  value_at-new_index ((v, false) ∷ slots) (suc i) at = value_at-new_index slots i at

  -- each place among the survivors is the new index of an unmarked slot
  pub new_index_onto : (slots : List (T × Bool)) (m : ℕ) → m < length (unmarked_slots (survivors slots)) → (i : ℕ) × (mark_at slots i ≡ Some false) × (new_index slots i ≡ m)
  new_index_onto [] m below = absurd (omega arith)
  new_index_onto ((v, true) ∷ slots) m below = let later = new_index_onto slots m below in (suc later.0, later.1, later.2)
  new_index_onto ((v, false) ∷ slots) zero below = (zero, refl, refl)
  new_index_onto ((v, false) ∷ slots) (suc m) below = let later = new_index_onto slots m (omega arith) in (suc later.0, later.1, ap (λ n. suc n) later.2)

  -- a slot that has a new index was unmarked, and an unmarked slot has one
  pub IsSome-index_map : (slots : List (T × Bool)) (i : ℕ) → IsSome (index_map slots i) ↔ (mark_at slots i ≡ Some false)
  IsSome-index_map slots i = at (mark_at slots i)
    where
      at : (o : Option Bool) → IsSome (option_and_then (λ is_marked. if is_marked then None else Some (new_index slots i)) o) ↔ (o ≡ Some false)
      at None = (λ some. cc, λ same. cc)
      at (Some true) = (λ some. cc, λ same. cc)
      at (Some false) = (λ some. refl, λ same. refl)

  -- no slot of such a list is marked
  pub mark_at-unmarked_slots : (values : List T) (m : ℕ) → m < length (unmarked_slots values) → mark_at (unmarked_slots values) m ≡ Some false
  mark_at-unmarked_slots [] m below = absurd (omega arith)
  mark_at-unmarked_slots (v ∷ values) zero below = refl
  mark_at-unmarked_slots (v ∷ values) (suc m) below = mark_at-unmarked_slots values m (omega arith)

  -- to keep the survivors, unmarked, and to give them the new indexes of the index map is a collection
  pub Renumbers-index_map : (slots : List (T × Bool)) → Renumbers slots (unmarked_slots (survivors slots)) (index_map slots)
  Renumbers-index_map slots = record {
    kept = λ i. IsSome-index_map slots i;
    increasing = λ i j m n at_i at_j less.
        let from = index_map_inverse slots i m at_i in
        let to = index_map_inverse slots j n at_j in
        let grows = new_index-lt slots i j from.0 less in
        omega arith;
    below = λ i m at_i.
        let from = index_map_inverse slots i m at_i in
        let below = new_index-lt_survivors slots i from.0 in
        omega arith;
    onto = λ m below.
        let from = new_index_onto slots m below in
        (from.0, index_map-unmarked slots from.0 from.1 ∙ ap (λ n. Some n) from.2);
    same_value = λ i m at_i.
        let from = index_map_inverse slots i m at_i in
        rw from.1 (value_at-new_index slots i from.0);
    not_marked = λ m below. mark_at-unmarked_slots (survivors slots) m below;
  }

module _ {T : Type 0} where
  -- a collection renumbers by its map, and by its table
  pub renumbered_by_map : (old new : List (T × Bool)) (indexes : List (ℕ × ℕ)) → IsIndexMap old indexes
      → new ≡ unmarked_slots (survivors old) → Renumbers old new (get nat_eq indexes)
  renumbered_by_map old new indexes is_map left =
      let same : get nat_eq indexes ≡ index_map old = λ i q. is_map.0 q i in
      rw (left, same) (Renumbers-index_map old)

  pub renumbered_by_table : (old new : List (T × Bool)) (table : List (Option ℕ)) → IsIndexTable old table
      → new ≡ unmarked_slots (survivors old) → Renumbers old new (table_at table)
  renumbered_by_table old new table is_table left =
      let same : table_at table ≡ index_map old = λ i q. is_table.0 q i in
      rw (left, same) (Renumbers-index_map old)

  -- the two say the same
  pub get-table_at : (old : List (T × Bool)) (indexes : List (ℕ × ℕ)) (table : List (Option ℕ)) → IsIndexMap old indexes
      → IsIndexTable old table → (i : ℕ) → get nat_eq indexes i ≡ table_at table i
  get-table_at old indexes table is_map is_table i = is_map.0 i ∙ sym (is_table.0 i)

module _ {X : Type 0} (index : ℕ → Option ℕ) (old new : ℕ → X) (same : (i m : ℕ) → index i ≡ Some m → new m ≡ old i) where
  renamed_first : (i : ℕ) (ms is : List ℕ) → map new ms ≡ map old is → (o : Option ℕ) → index i ≡ o → map new (cons_option o ms) ≡ map old (cond (is_some o) (i ∷ is) is)
  renamed_first i ms is rest (Some m) at = λ k. same i m at k ∷ rest k
  renamed_first i ms is rest None at = rest

  -- a list of indexes under a renaming: what the new indexes read is what the old ones read that have a new one
  pub map-renamed : (is : List ℕ) → map new (filter_map index is) ≡ map old (filter (λ i. is_some (index i)) is)
  map-renamed [] = refl
  map-renamed (i ∷ is) = renamed_first i (filter_map index is) (filter (λ j. is_some (index j)) is) (map-renamed is) (index i) refl
