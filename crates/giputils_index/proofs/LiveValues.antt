-- The values of unmarked slots: by their indexes, and in a walk over them.
use Rattle.std.specs.Prelude.{◌≡◌, ◌≢◌, ◌↔◌, ℕ, zero, suc, ◌+◌, ◌<◌, ◌≤◌, Bool, true, false, List, [], ◌∷◌, ◌++◌, length, map, slice_get, Option, Some, None, IsSome, option_map, option_and_then, if◌then◌else◌, nat_eq, refl}
use Rattle.std.specs.Option.{option_map_or}
use Rattle.std.proofs.Common.{arith, ap, sym, ◌∙◌}
use Rattle.std.proofs.lemmas.Bool.Decides.{nat_tests}
use Rattle.giputils_hash.specs.Hash.{get}
use Rattle.giputils_index.specs.Allocator.{value_at, mark_at, live_at, live_count, live_slots, mark, write, survivors, unmarked_slots, Renumbers}
use Rattle.std.proofs.lemmas.Option.{slice_get_within}
use Rattle.giputils_index.proofs.Slots.{slot_there, value_at-mark, mark_at-mark, mark_at-mark_other, value_at-write, value_at-write_other, mark_at-write}

module _ {T : Type 0} where
  -- the value of an unmarked slot, by the slot's value and its mark
  abbrev by_parts : Option T → Option Bool → Option T
  by_parts value mark = option_and_then (λ is_marked. if is_marked then None else value) mark

  pub live_at_by_parts : (slots : List (T × Bool)) (i : ℕ) → live_at slots i ≡ by_parts (value_at slots i) (mark_at slots i)
  live_at_by_parts slots i = at (slice_get slots i)
    where
      at : (o : Option (T × Bool))
          → option_and_then (λ slot. if slot.1 then None else Some slot.0) o ≡ by_parts (option_map (λ slot. slot.0) o) (option_map (λ slot. slot.1) o)
      at None = refl
      at (Some (v, true)) = refl
      at (Some (v, false)) = refl

  -- where the mark is known: an unmarked slot has its value, and a marked one has none

  pub live_at-unmarked : (slots : List (T × Bool)) (i : ℕ) → mark_at slots i ≡ Some false → live_at slots i ≡ value_at slots i
  live_at-unmarked slots i at = live_at_by_parts slots i ∙ ap (by_parts (value_at slots i)) at

  pub live_at-marked : (slots : List (T × Bool)) (i : ℕ) → mark_at slots i ≡ Some true → live_at slots i ≡ None
  live_at-marked slots i at = live_at_by_parts slots i ∙ ap (by_parts (value_at slots i)) at

  -- the value is there exactly where the slot is unmarked
  pub IsSome-live_at : (slots : List (T × Bool)) (i : ℕ) → IsSome (live_at slots i) ↔ (mark_at slots i ≡ Some false)
  IsSome-live_at slots i = at (slice_get slots i)
    where
      at : (o : Option (T × Bool))
          → IsSome (option_and_then (λ slot. if slot.1 then None else Some slot.0) o) ↔ (option_map (λ slot. slot.1) o ≡ Some false)
      at None = (λ some. cc, λ same. cc)
      at (Some (v, true)) = (λ some. cc, λ same. cc)
      at (Some (v, false)) = (λ some. refl, λ same. refl)

  -- a slot that is marked has no such value more, and the others keep theirs

  pub live_at-mark : (slots : List (T × Bool)) (i : ℕ) → i < length slots → live_at (mark slots i) i ≡ None
  live_at-mark slots i below = live_at-marked (mark slots i) i (mark_at-mark slots i below)

  pub live_at-mark_other : (slots : List (T × Bool)) (i k : ℕ) → k ≢ i → live_at (mark slots i) k ≡ live_at slots k
  live_at-mark_other slots i k other =
      live_at_by_parts (mark slots i) k
      ∙ ap (λ v. by_parts v (mark_at (mark slots i) k)) (value_at-mark slots i k)
      ∙ ap (by_parts (value_at slots k)) (mark_at-mark_other slots i k other)
      ∙ sym (live_at_by_parts slots k)

  -- a write changes that of its own slot alone, where it is unmarked

  pub live_at-write : (slots : List (T × Bool)) (i : ℕ) (v : T) → mark_at slots i ≡ Some false → i < length slots
      → live_at (write slots i v) i ≡ Some v
  live_at-write slots i v at below =
      live_at-unmarked (write slots i v) i (mark_at-write slots i i v ∙ at) ∙ value_at-write slots i v below

  pub live_at-written : (slots : List (T × Bool)) (i : ℕ) (old v : T) → live_at slots i ≡ Some old → live_at (write slots i v) i ≡ Some v
  live_at-written slots i old v at =
      let unmarked : mark_at slots i ≡ Some false = (IsSome-live_at slots i).0 (rw at refl) in
      let (value, there) = slot_there slots i false unmarked in
      live_at-write slots i v unmarked (slice_get_within slots i (value, false) there)

  pub live_at-write_other : (slots : List (T × Bool)) (i k : ℕ) (v : T) → k ≢ i → live_at (write slots i v) k ≡ live_at slots k
  live_at-write_other slots i k v other =
      live_at_by_parts (write slots i v) k
      ∙ ap (λ w. by_parts w (mark_at (write slots i v) k)) (value_at-write_other slots i k v other)
      ∙ ap (by_parts (value_at slots k)) (mark_at-write slots i k v)
      ∙ sym (live_at_by_parts slots k)

  -- a value that joins the others is that of the next index, and the others keep theirs
  pub live_at-push : (slots : List (T × Bool)) (v : T) → live_at (slots ++ (v, false) ∷ []) (length slots) ≡ Some v
  live_at-push [] v = refl
  live_at-push (s ∷ slots) v = live_at-push slots v

  pub live_at-push_other : (slots : List (T × Bool)) (v : T) (k : ℕ) → k ≢ length slots → live_at (slots ++ (v, false) ∷ []) k ≡ live_at slots k
  live_at-push_other [] v zero other = absurd (other refl)
  live_at-push_other [] v (suc k) other = refl
  live_at-push_other (s ∷ slots) v zero other = refl
  live_at-push_other (s ∷ slots) v (suc k) other = live_at-push_other slots v k (λ same. other (ap (λ n. suc n) same))

  -- after a collection the values are those that survived, in order, and each is named by an index below the length

  pub live_at-unmarked_slots : (values : List T) (i : ℕ) → live_at (unmarked_slots values) i ≡ slice_get values i
  live_at-unmarked_slots [] i = refl
  live_at-unmarked_slots (v ∷ values) zero = refl
  live_at-unmarked_slots (v ∷ values) (suc i) = live_at-unmarked_slots values i

  pub named_below : (values : List T) (i : ℕ) → IsSome (live_at (unmarked_slots values) i) ↔ (i < length (unmarked_slots values))
  named_below [] i = (λ some. cc, λ below. absurd (omega arith))
  named_below (v ∷ values) zero = (λ some. omega arith, λ below. refl)
  named_below (v ∷ values) (suc i) =
      let rest = named_below values i in
      (λ some. let below = rest.0 some in omega arith, λ below. rest.1 (omega arith))

  -- what an old index named its new one names
  pub live_at-renumbered : (old new : List (T × Bool)) (index : ℕ → Option ℕ) (i m : ℕ) → Renumbers old new index → index i ≡ Some m
      → live_at new m ≡ live_at old i
  live_at-renumbered old new index i m renumbers at =
      let unmarked : mark_at old i ≡ Some false = (renumbers.kept i).0 (rw at refl) in
      live_at-unmarked new m (renumbers.not_marked m (renumbers.below i m at))
      ∙ renumbers.same_value i m at
      ∙ sym (live_at-unmarked old i unmarked)

  -- ---- the walk over the unmarked slots
  -- it has as many items as there are unmarked slots, and their values, in order

  pub length-live_slots : (start : ℕ) (slots : List (T × Bool)) → length (live_slots start slots) ≡ live_count slots
  length-live_slots start [] = refl
  length-live_slots start ((v, true) ∷ slots) = length-live_slots (start + 1) slots
  length-live_slots start ((v, false) ∷ slots) = ap (λ n. suc n) (length-live_slots (start + 1) slots)

  pub map-live_slots : (start : ℕ) (slots : List (T × Bool)) → map (λ item. item.1) (live_slots start slots) ≡ survivors slots
  map-live_slots start [] = refl
  map-live_slots start ((v, true) ∷ slots) = map-live_slots (start + 1) slots
  map-live_slots start ((v, false) ∷ slots) = ap (λ vs. v ∷ vs) (map-live_slots (start + 1) slots)

  -- each index is given once, and a later one is greater

  live_slots-past : (start : ℕ) (slots : List (T × Bool)) (p : ℕ) (item : ℕ × T) → slice_get (live_slots start slots) p ≡ Some item → start ≤ item.0
  live_slots-past start [] p item at = cc
  live_slots-past start ((v, true) ∷ slots) p item at = let later = live_slots-past (start + 1) slots p item at in omega arith
  live_slots-past start ((v, false) ∷ slots) zero (k, w) at = let same : start ≡ k = ap (λ o. option_map_or (λ item. item.0) o 0) at in omega arith
  live_slots-past start ((v, false) ∷ slots) (suc p) item at = let later = live_slots-past (start + 1) slots p item at in omega arith

  pub live_slots-rising : (start : ℕ) (slots : List (T × Bool)) (p q : ℕ) (first second : ℕ × T)
      → slice_get (live_slots start slots) p ≡ Some first → slice_get (live_slots start slots) q ≡ Some second → p < q → first.0 < second.0
  live_slots-rising start [] p q first second at_p at_q less = cc
  live_slots-rising start ((v, true) ∷ slots) p q first second at_p at_q less = live_slots-rising (start + 1) slots p q first second at_p at_q less
  live_slots-rising start ((v, false) ∷ slots) p zero first second at_p at_q less = absurd (omega arith)
  live_slots-rising start ((v, false) ∷ slots) zero (suc q) (k, w) second at_p at_q less =
      let same : start ≡ k = ap (λ o. option_map_or (λ item. item.0) o 0) at_p in
      let later = live_slots-past (start + 1) slots q second at_q in
      omega arith
  live_slots-rising start ((v, false) ∷ slots) (suc p) (suc q) first second at_p at_q less =
      live_slots-rising (start + 1) slots p q first second at_p at_q (omega arith)

  -- a value that joins the others comes last
  pub live_slots-push : (start : ℕ) (slots : List (T × Bool)) (v : T)
      → live_slots start (slots ++ (v, false) ∷ []) ≡ live_slots start slots ++ (start + length slots, v) ∷ []
  live_slots-push start [] v = let same : start ≡ start + 0 = omega arith in ap (λ n. (n, v) ∷ []) same
  live_slots-push start ((w, true) ∷ slots) v =
      let same : start + 1 + length slots ≡ start + suc (length slots) = omega arith in
      live_slots-push (start + 1) slots v ∙ ap (λ n. live_slots (start + 1) slots ++ (n, v) ∷ []) same
  live_slots-push start ((w, false) ∷ slots) v =
      let same : start + 1 + length slots ≡ start + suc (length slots) = omega arith in
      ap (λ items. (start, w) ∷ items) (live_slots-push (start + 1) slots v ∙ ap (λ n. live_slots (start + 1) slots ++ (n, v) ∷ []) same)

  before_start : (start i : ℕ) (slots : List (T × Bool)) → i < start → get nat_eq (live_slots start slots) i ≡ None
  before_start start i [] less = refl
  before_start start i ((v, true) ∷ slots) less = before_start (start + 1) i slots (omega arith)
  before_start start i ((v, false) ∷ slots) less =
      let other : nat_eq i start ≡ false = grind (arith, nat_tests) in
      rw other (before_start (start + 1) i slots (omega arith))

  from_start : (start i k : ℕ) (slots : List (T × Bool)) → start + i ≡ k → get nat_eq (live_slots start slots) k ≡ live_at slots i
  from_start start i k [] at = refl
  from_start start zero k ((v, true) ∷ slots) at = before_start (start + 1) k slots (omega arith)
  from_start start zero k ((v, false) ∷ slots) at = let here : nat_eq k start ≡ true = grind (arith, nat_tests) in rw here refl
  from_start start (suc i) k ((v, true) ∷ slots) at = from_start (start + 1) i k slots (omega arith)
  from_start start (suc i) k ((v, false) ∷ slots) at =
      let other : nat_eq k start ≡ false = grind (arith, nat_tests) in
      rw other (from_start (start + 1) i k slots (omega arith))

  -- what it has at an index is the value there, if the slot is unmarked
  pub get-live_slots : (slots : List (T × Bool)) (i : ℕ) → get nat_eq (live_slots 0 slots) i ≡ live_at slots i
  get-live_slots slots i = from_start 0 i i slots (omega arith)
