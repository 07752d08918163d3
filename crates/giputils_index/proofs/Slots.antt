-- What marks and writes leave of the slots of an allocator, and which values survive.
use Rattle.std.specs.Prelude.{◌≡◌, ◌≢◌, ℕ, zero, suc, ◌+◌, ◌<◌, ◌≤◌, Bool, true, false, List, [], ◌∷◌, ◌++◌, length, filter, slice_get, slice_set, Option, Some, None, option_map, refl}
use Rattle.std.specs.Option.{option_map_or}
use Rattle.std.proofs.Common.{arith, ap, ◌∙◌, inl, inr, cond}
use Rattle.std.proofs.Math.ListN.{length-set}
use Rattle.std.proofs.lemmas.Bool.{cases_eq}
use Rattle.giputils_index.specs.Allocator.{is_unmarked, value_at, mark_at, live_count, mark, write, survivors, unmarked_slots}

module _ {X : Type 0} where
  -- below the length there is an item
  slice_get_there : (xs : List X) (i : ℕ) → i < length xs → (x : X) × (slice_get xs i ≡ Some x)
  slice_get_there [] i below = absurd (omega arith)
  slice_get_there (x ∷ xs) zero below = (x, refl)
  slice_get_there (x ∷ xs) (suc i) below = slice_get_there xs i (omega arith)

  -- an item that was set, and the others
  slice_get-set : (xs : List X) (i : ℕ) (x : X) → slice_get (slice_set xs i x) i ≡ option_map (λ _. x) (slice_get xs i)
  slice_get-set [] i x = refl
  slice_get-set (y ∷ ys) zero x = refl
  slice_get-set (y ∷ ys) (suc i) x = slice_get-set ys i x

  set_same : (xs : List X) (i : ℕ) (x : X) → slice_get xs i ≡ Some x → slice_set xs i x ≡ xs
  set_same [] i x at = refl
  set_same (y ∷ ys) zero x at = cc
  set_same (y ∷ ys) (suc i) x at = ap (λ zs. y ∷ zs) (set_same ys i x at)

  slice_get-set_other : (xs : List X) (i k : ℕ) (x : X) → k ≢ i → slice_get (slice_set xs i x) k ≡ slice_get xs k
  slice_get-set_other [] i k x other = refl
  slice_get-set_other (y ∷ ys) zero zero x other = absurd (other refl)
  slice_get-set_other (y ∷ ys) zero (suc k) x other = refl
  slice_get-set_other (y ∷ ys) (suc i) zero x other = refl
  slice_get-set_other (y ∷ ys) (suc i) (suc k) x other = slice_get-set_other ys i k x (λ same. other (ap (λ n. suc n) same))

-- a mark and a write are both a change of one item
module _ {X : Type 0} (change : X → X) where
  -- the list with item i changed, where it is `item`
  abbrev with_changed : List X → ℕ → Option X → List X
  with_changed xs i item = option_map_or (λ x. slice_set xs i (change x)) item xs

  length-with_changed : (xs : List X) (i : ℕ) (item : Option X) → length (with_changed xs i item) ≡ length xs
  length-with_changed xs i None = refl
  length-with_changed xs i (Some x) = length-set xs i (change x)

  slice_get-with_changed : (xs : List X) (i : ℕ) (item : Option X) → slice_get xs i ≡ item → slice_get (with_changed xs i item) i ≡ option_map change item
  slice_get-with_changed xs i None at = at
  slice_get-with_changed xs i (Some x) at = slice_get-set xs i (change x) ∙ ap (option_map (λ _. change x)) at

  slice_get-with_changed_other : (xs : List X) (i k : ℕ) (item : Option X) → k ≢ i → slice_get (with_changed xs i item) k ≡ slice_get xs k
  slice_get-with_changed_other xs i k None other = refl
  slice_get-with_changed_other xs i k (Some x) other = slice_get-set_other xs i k (change x) other

  -- what the change leaves alone in an item, it leaves alone in each
  with_changed_keeps : {Y : Type 0} (part : X → Y) → ((x : X) → part (change x) ≡ part x)
      → (xs : List X) (i k : ℕ) → option_map part (slice_get (with_changed xs i (slice_get xs i)) k) ≡ option_map part (slice_get xs k)
  with_changed_keeps part same xs i k = elim (cases_eq k i) [
    | inl here ↦ rw here (ap (option_map part) (slice_get-with_changed xs i (slice_get xs i) refl) ∙ at (slice_get xs i))
    | inr other ↦ ap (option_map part) (slice_get-with_changed_other xs i k (slice_get xs i) other)
  ]
    where
      at : (item : Option X) → option_map part (option_map change item) ≡ option_map part item
      at None = refl
      at (Some x) = ap (λ y. Some y) (same x)

module _ {T : Type 0} where
  -- a slot whose mark is known
  pub slot_there : (slots : List (T × Bool)) (i : ℕ) (b : Bool) → mark_at slots i ≡ Some b → (v : T) × (slice_get slots i ≡ Some (v, b))
  slot_there [] i b at = cc
  slot_there ((v, true) ∷ slots) zero true at = (v, refl)
  slot_there ((v, false) ∷ slots) zero false at = (v, refl)
  slot_there ((v, true) ∷ slots) zero false at = cc
  slot_there ((v, false) ∷ slots) zero true at = cc
  slot_there (s ∷ slots) (suc i) b at = slot_there slots i b at

  -- a mark leaves as many slots, and every value; the slot is marked, and the others keep their marks

  pub length-mark : (slots : List (T × Bool)) (i : ℕ) → length (mark slots i) ≡ length slots
  length-mark slots i = length-with_changed (λ slot. (slot.0, true)) slots i (slice_get slots i)

  pub value_at-mark : (slots : List (T × Bool)) (i k : ℕ) → value_at (mark slots i) k ≡ value_at slots k
  value_at-mark slots i k = with_changed_keeps (λ slot. (slot.0, true)) (λ slot. slot.0) (λ slot. refl) slots i k

  pub mark_at-mark : (slots : List (T × Bool)) (i : ℕ) → i < length slots → mark_at (mark slots i) i ≡ Some true
  mark_at-mark slots i below =
      let there = slice_get_there slots i below in
      rw there.1 (ap (option_map (λ slot. slot.1)) (slice_get-with_changed (λ slot. (slot.0, true)) slots i (Some there.0) there.1))

  pub mark_at-mark_other : (slots : List (T × Bool)) (i k : ℕ) → k ≢ i → mark_at (mark slots i) k ≡ mark_at slots k
  mark_at-mark_other slots i k other = ap (option_map (λ slot. slot.1)) (slice_get-with_changed_other (λ slot. (slot.0, true)) slots i k (slice_get slots i) other)

  -- a write leaves as many slots, and every mark; the slot has the value, and the others keep theirs

  pub length-write : (slots : List (T × Bool)) (i : ℕ) (v : T) → length (write slots i v) ≡ length slots
  length-write slots i v = length-with_changed (λ slot. (v, slot.1)) slots i (slice_get slots i)

  pub mark_at-write : (slots : List (T × Bool)) (i k : ℕ) (v : T) → mark_at (write slots i v) k ≡ mark_at slots k
  mark_at-write slots i k v = with_changed_keeps (λ slot. (v, slot.1)) (λ slot. slot.1) (λ slot. refl) slots i k

  pub value_at-write : (slots : List (T × Bool)) (i : ℕ) (v : T) → i < length slots → value_at (write slots i v) i ≡ Some v
  value_at-write slots i v below =
      let there = slice_get_there slots i below in
      rw there.1 (ap (option_map (λ slot. slot.0)) (slice_get-with_changed (λ slot. (v, slot.1)) slots i (Some there.0) there.1))

  pub value_at-write_other : (slots : List (T × Bool)) (i k : ℕ) (v : T) → k ≢ i → value_at (write slots i v) k ≡ value_at slots k
  value_at-write_other slots i k v other = ap (option_map (λ slot. slot.0)) (slice_get-with_changed_other (λ slot. (v, slot.1)) slots i k (slice_get slots i) other)

  -- a marked slot that is marked again stays as it is
  pub mark-marked : (slots : List (T × Bool)) (i : ℕ) → mark_at slots i ≡ Some true → mark slots i ≡ slots
  mark-marked slots i at = let (v, there) = slot_there slots i true at in rw there (set_same slots i (v, true) there)

  -- the number of unmarked slots, where slot i gets another value and another mark
  pub live_count-set : (slots : List (T × Bool)) (i : ℕ) (old new : T × Bool) → slice_get slots i ≡ Some old
      → live_count (slice_set slots i new) + cond old.1 0 1 ≡ live_count slots + cond new.1 0 1
  live_count-set [] i old new at = cc
  live_count-set ((v, true) ∷ slots) zero (u, true) (w, true) at = refl
  live_count-set ((v, true) ∷ slots) zero (u, true) (w, false) at = omega arith
  live_count-set ((v, false) ∷ slots) zero (u, false) (w, true) at = omega arith
  live_count-set ((v, false) ∷ slots) zero (u, false) (w, false) at = refl
  live_count-set ((v, true) ∷ slots) zero (u, false) new at = let marks : Some true ≡ Some false = ap (option_map (λ slot. slot.1)) at in cc
  live_count-set ((v, false) ∷ slots) zero (u, true) new at = let marks : Some false ≡ Some true = ap (option_map (λ slot. slot.1)) at in cc
  live_count-set ((v, true) ∷ slots) (suc i) old new at = live_count-set slots i old new at
  live_count-set ((v, false) ∷ slots) (suc i) old new at = let rest = live_count-set slots i old new at in omega arith

  -- a mark takes one from the number, and a write takes none
  pub live_count-mark : (slots : List (T × Bool)) (i : ℕ) → mark_at slots i ≡ Some false → live_count (mark slots i) + 1 ≡ live_count slots
  live_count-mark slots i at =
      let (v, there) = slot_there slots i false at in
      let set = live_count-set slots i (v, false) (v, true) there in
      rw there (omega arith)

  pub live_count-write : (slots : List (T × Bool)) (i : ℕ) (v : T) → live_count (write slots i v) ≡ live_count slots
  live_count-write slots i v = at (slice_get slots i) refl
    where
      at : (o : Option (T × Bool)) → slice_get slots i ≡ o → live_count (option_map_or (λ slot. slice_set slots i (v, slot.1)) o slots) ≡ live_count slots
      at None e = refl
      at (Some slot) e = let set = live_count-set slots i slot (v, slot.1) e in omega arith

  -- an unmarked slot more
  pub live_count-push : (slots : List (T × Bool)) (v : T) → live_count (slots ++ (v, false) ∷ []) ≡ live_count slots + 1
  live_count-push [] v = refl
  live_count-push ((w, true) ∷ slots) v = live_count-push slots v
  live_count-push ((w, false) ∷ slots) v = let rest = live_count-push slots v in omega arith

  -- there are no more unmarked slots than slots
  pub live_count-le : (slots : List (T × Bool)) → live_count slots ≤ length slots
  live_count-le [] = omega arith
  live_count-le ((v, true) ∷ slots) = let rest = live_count-le slots in omega arith
  live_count-le ((v, false) ∷ slots) = let rest = live_count-le slots in omega arith

  -- of unmarked slots all values survive
  pub survivors-unmarked_slots : (values : List T) → survivors (unmarked_slots values) ≡ values
  survivors-unmarked_slots [] = refl
  survivors-unmarked_slots (v ∷ values) = ap (λ vs. v ∷ vs) (survivors-unmarked_slots values)

  -- the slots of the survivors are the slots that were unmarked
  pub unmarked_slots-survivors : (slots : List (T × Bool)) → unmarked_slots (survivors slots) ≡ filter is_unmarked slots
  unmarked_slots-survivors [] = refl
  unmarked_slots-survivors ((v, true) ∷ slots) = unmarked_slots-survivors slots
  unmarked_slots-survivors ((v, false) ∷ slots) = ap (λ ss. (v, false) ∷ ss) (unmarked_slots-survivors slots)

  -- a value that joins the others survives behind them
  pub survivors-push : (slots : List (T × Bool)) (v : T) → survivors (slots ++ (v, false) ∷ []) ≡ survivors slots ++ v ∷ []
  survivors-push [] v = refl
  survivors-push ((w, true) ∷ slots) v = survivors-push slots v
  survivors-push ((w, false) ∷ slots) v = ap (λ vs. w ∷ vs) (survivors-push slots v)
