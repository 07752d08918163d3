-- What a contract sees of a queue that owns the priorities of its keys.
use Rattle.std.specs.Prelude.{◌≡◌, ◌≢◌, ℕ, ◌+◌, ◌-◌, ◌≤◌, if◌then◌else◌, List, ◌∷◌, ◌++◌, length, replicate, slice_get, slice_set, Option, Some, None, IsTrue}
use Rattle.std.specs.List.Sorted.{IsPermutation}
use Rattle.std.specs.Ordering.{is_le}
use Rattle.std.specs.declared.cmp.Ordering.{Ordering}
use Rattle.std.specs.declared.cmp.Ordering.TheVariants.{Equal}
use Rattle.giputils_bounded.specs.Prelude.{AreBelow, Bounded, HoldAlike, IsAbsent, IsHeld, IsInOrder, by_ord, is_held}

-- the held keys, each once and in an open order; the priority of each number, of a key that is held or not; and how
-- often priorities were compared
pub record Prioritized (T P : Type 0) : Type 0 where
  pub keys : List T
  pub priorities : List P
  pub comparisons : ℕ

-- the priorities with one for each number up to n, where those that are missing are p
abbrev pub filled_up : {P : Type 0} → List P → ℕ → P → List P
filled_up priorities n p = priorities ++ replicate (n + 1 - length priorities) p

-- the priorities with p for the number n
abbrev pub with_priority : {P : Type 0} → List P → ℕ → P → List P
with_priority priorities n p = slice_set (filled_up priorities n p) n p

module _ {T P : Type 0} (number : T → ℕ) where
  -- the priority with which a key is held; none where it is not held
  abbrev pub priority_of : Prioritized T P → T → Option P
  priority_of queue k = if is_held number queue.keys k then slice_get queue.priorities (number k) else None

  -- the queue `new` holds v with the priority p, or not where that is none, and every other key as `old` does
  pub record ChangesAt (v : T) (p : Option P) (old new : Prioritized T P) : Type 0 where
    pub here : priority_of new v ≡ p
    pub others : (k : T) → number k ≢ number v → priority_of new k ≡ priority_of old k

module _ {T : Type 0} (number : T → ℕ) where
  -- v is held as well
  pub record Joins (v : T) (old new : List T) : Type 0 where
    pub moved : IsHeld number old v → IsPermutation old new
    pub added : IsAbsent number old v → IsPermutation (v ∷ old) new
    pub alike : HoldAlike number new (v ∷ old)

-- so often, at most, were priorities compared
pub record ComparesAtMost {T P : Type 0} (old new : Prioritized T P) (most : ℕ) : Type 0 where
  pub rises : old.comparisons ≤ new.comparisons
  pub comparisons : new.comparisons ≤ old.comparisons + most

module _ {T P : Type 0} (number : T → ℕ) (cmp : P → P → Ordering) where
  -- k is held with the priority p, and no key with a greater one; of the keys with an equal one it has the greatest
  -- number
  pub record IsFirst (queue : Prioritized T P) (k : T) (p : P) : Type 0 where
    pub held : priority_of number queue k ≡ Some p
    pub greatest : (other : T) (q : P) → priority_of number queue other ≡ Some q → IsTrue (is_le (cmp q p))
    pub ties : (other : T) (q : P) → priority_of number queue other ≡ Some q → cmp q p ≡ Equal → number other ≤ number k

  -- the queue's own: its heap is in order by the priorities, each of which stands at the number of its key
  pub record IsPrioritized (heap : Bounded T) (priorities : List P) : Type 0 where
    pub in_order : IsInOrder (by_ord number cmp priorities) heap.keys
    pub bound : heap.bound ≡ length priorities
    pub below : AreBelow number (length priorities) heap.keys
