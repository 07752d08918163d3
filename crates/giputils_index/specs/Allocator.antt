-- An allocator of indexes as a list of slots. A slot is a value, and whether it is marked as removed.
--
-- How it is proved: an edit of one item is `option_map_or (λ x. slice_set xs i (f x)) (slice_get xs i) xs`. Its lemmas
-- are short with the option as a variable (`proofs/Slots`).
use Rattle.std.specs.Prelude.{◌≡◌, ◌↔◌, ℕ, ◌+◌, ◌<◌, ◌≤◌, Bool, true, false, not, List, [], ◌∷◌, length, map, filter, take, slice_get, slice_set, Option, Some, None, IsSome, option_map, option_and_then, if◌then◌else◌, nat_eq}
use Rattle.std.specs.Option.{option_map_or}
use Rattle.giputils_hash.specs.Hash.{get, HasUniqueKeys}

-- what a table has at the index i, and nothing past its end
abbrev pub table_at : List (Option ℕ) → ℕ → Option ℕ
table_at table i = option_and_then (λ entry. entry) (slice_get table i)

-- what a map that answers by f does once the keys were put into it, in turn, with the numbers from n on
abbrev pub put_in_turn : (ℕ → Option ℕ) → List ℕ → ℕ → ℕ → Option ℕ
put_in_turn f [] n q = f q
put_in_turn f (k ∷ ks) n q = put_in_turn (λ p. if nat_eq k p then Some n else f p) ks (n + 1) q

module _ {T : Type 0} where
  -- the slot is not marked
  abbrev pub is_unmarked : T × Bool → Bool
  is_unmarked slot = not slot.1

  -- the value of slot i, marked or not
  abbrev pub value_at : List (T × Bool) → ℕ → Option T
  value_at slots i = option_map (λ slot. slot.0) (slice_get slots i)

  -- the mark of slot i
  abbrev pub mark_at : List (T × Bool) → ℕ → Option Bool
  mark_at slots i = option_map (λ slot. slot.1) (slice_get slots i)

  -- the value of slot i, if it is unmarked
  abbrev pub live_at : List (T × Bool) → ℕ → Option T
  live_at slots i = option_and_then (λ slot. if slot.1 then None else Some slot.0) (slice_get slots i)

  -- slot i is marked, and keeps its value
  abbrev pub mark : List (T × Bool) → ℕ → List (T × Bool)
  mark slots i = option_map_or (λ slot. slice_set slots i (slot.0, true)) (slice_get slots i) slots

  -- slot i has the value v, and keeps its mark
  abbrev pub write : List (T × Bool) → ℕ → T → List (T × Bool)
  write slots i v = option_map_or (λ slot. slice_set slots i (v, slot.1)) (slice_get slots i) slots

  -- `new` is `old` with slot i marked, which has a default in the place of its value
  abbrev pub TakesValue : (T → Type 0) → ℕ → List (T × Bool) → List (T × Bool) → Type 0
  TakesValue is_default i old new = (rest : T) × is_default rest × (new ≡ mark (write old i rest) i)

  -- the unmarked values, in order
  abbrev pub survivors : List (T × Bool) → List T
  survivors slots = map (λ slot. slot.0) (filter is_unmarked slots)

  -- how many slots are unmarked
  abbrev pub live_count : List (T × Bool) → ℕ
  live_count slots = length (survivors slots)

  -- the unmarked slots, each as its index and its value, by rising index; the first of all slots has the index `start`
  abbrev pub live_slots : ℕ → List (T × Bool) → List (ℕ × T)
  live_slots start [] = []
  live_slots start (slot ∷ slots) =
      if slot.1 then live_slots (start + 1) slots else (start, slot.0) ∷ live_slots (start + 1) slots

  -- the slots of these values, each unmarked
  abbrev pub unmarked_slots : List T → List (T × Bool)
  unmarked_slots values = map (λ v. (v, false)) values

  -- how many slots before i survive
  abbrev pub new_index : List (T × Bool) → ℕ → ℕ
  new_index slots i = length (survivors (take i slots))

  -- each slot from `start` on, before `end`, is marked
  abbrev pub AreMarked : List (T × Bool) → ℕ → ℕ → Type 0
  AreMarked slots start end = (k : ℕ) → start ≤ k → k < end → mark_at slots k ≡ Some true

  -- the indexes are those of the unmarked slots from `start` on, before `end`, in order
  abbrev pub AreUnmarked : List (T × Bool) → ℕ → ℕ → List ℕ → Type 0
  AreUnmarked slots start end [] = (start ≤ end) × AreMarked slots start end
  AreUnmarked slots start end (k ∷ ks) =
      (start ≤ k) × AreMarked slots start k × (mark_at slots k ≡ Some false) × AreUnmarked slots (k + 1) end ks

  -- the new index of an unmarked slot; a marked one, and one past the end, has none
  abbrev pub index_map : List (T × Bool) → ℕ → Option ℕ
  index_map slots i =
      option_and_then (λ is_marked. if is_marked then None else Some (new_index slots i)) (mark_at slots i)

  -- the map has the unmarked places as its keys, each with its new index
  abbrev pub IsIndexMap : List (T × Bool) → List (ℕ × ℕ) → Type 0
  IsIndexMap slots indexes = ((i : ℕ) → get nat_eq indexes i ≡ index_map slots i) × HasUniqueKeys nat_eq indexes

  -- the table has the new index of each place, where it has one
  abbrev pub IsIndexTable : List (T × Bool) → List (Option ℕ) → Type 0
  IsIndexTable slots table = ((i : ℕ) → table_at table i ≡ index_map slots i) × (length table ≡ length slots)

  -- what a collection does to the slots `old`: they become `new`, and index i becomes `index i`, if it has a new one
  pub record Renumbers (old new : List (T × Bool)) (index : ℕ → Option ℕ) : Type 0 where
    -- the unmarked slots are kept, and no others
    pub kept : (i : ℕ) → IsSome (index i) ↔ (mark_at old i ≡ Some false)
    -- the order stays
    pub increasing : (i j m n : ℕ) → index i ≡ Some m → index j ≡ Some n → i < j → m < n
    -- each new place is the new index of an old one, and there is no other
    pub below : (i m : ℕ) → index i ≡ Some m → m < length new
    pub onto : (m : ℕ) → m < length new → (i : ℕ) × (index i ≡ Some m)
    -- the value goes along, and no new slot is marked
    pub same_value : (i m : ℕ) → index i ≡ Some m → value_at new m ≡ value_at old i
    pub not_marked : (m : ℕ) → m < length new → mark_at new m ≡ Some false
