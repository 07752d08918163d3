-- A run of calls on an allocator.
use Rattle.std.specs.Prelude.{◌≡◌, ℕ, ◌++◌, Bool, false, List, [], ◌∷◌, length, ◌⊎◌, nat_lt, if◌then◌else◌}
use Rattle.std.specs.Option.{option_map_or}
use Rattle.giputils_index.specs.declared.allocator.run.GallocCall.{GallocCall}
use Rattle.giputils_index.specs.declared.allocator.run.GallocCall.TheVariants.{Alloc, Dealloc, IsRemoved, Read, Write, Gc, Len}
use Rattle.giputils_index.specs.declared.allocator.run.GallocReply.{GallocReply}
use Rattle.giputils_index.specs.declared.allocator.run.GallocReply.TheVariants.{Index, Done, Flag, Value, Map, Length, Refused, Skipped}
use Rattle.giputils_index.specs.Allocator.{value_at, mark_at, mark, write, survivors, unmarked_slots, IsIndexMap}

module _ {T A : Type 0} where
  -- the call, made on these slots, may be answered so: where memory is refused an `Alloc` and a `Gc` may be too
  abbrev pub IsAnswer : List (T × Bool) → GallocCall T → GallocReply T A → Type 0
  IsAnswer slots (Alloc v) reply = (reply ≡ Index (length slots)) ⊎ (reply ≡ Refused)
  IsAnswer slots (Dealloc i) reply = reply ≡ (if nat_lt i (length slots) then Done else Skipped)
  IsAnswer slots (IsRemoved i) reply = reply ≡ option_map_or Flag (mark_at slots i) Skipped
  IsAnswer slots (Read i) reply = reply ≡ option_map_or Value (value_at slots i) Skipped
  IsAnswer slots (Write i v) reply = reply ≡ (if nat_lt i (length slots) then Done else Skipped)
  IsAnswer slots Gc reply =
      ((indexes : List (ℕ × ℕ)) × (reply ≡ Map indexes) × IsIndexMap slots indexes) ⊎ (reply ≡ Refused)
  IsAnswer slots Len reply = reply ≡ Length (length slots)

  -- the slots after a call on these that was answered so
  abbrev pub slots_after : List (T × Bool) → GallocCall T → GallocReply T A → List (T × Bool)
  slots_after slots call Refused = slots
  slots_after slots call Skipped = slots
  slots_after slots (Alloc v) reply = slots ++ (v, false) ∷ []
  slots_after slots (Dealloc i) reply = mark slots i
  slots_after slots (Write i v) reply = write slots i v
  slots_after slots Gc reply = unmarked_slots (survivors slots)
  slots_after slots call reply = slots

  -- the calls, made one after another from the slots `start` on, may be answered so, and then leave the slots `end`
  abbrev pub Answers : List (T × Bool) → List (GallocCall T) → List (GallocReply T A) → List (T × Bool) → Type 0
  Answers start [] [] end = end ≡ start
  Answers start (call ∷ calls) (reply ∷ replies) end =
      IsAnswer start call reply × Answers (slots_after start call reply) calls replies end
  Answers start calls replies end = ⊥
