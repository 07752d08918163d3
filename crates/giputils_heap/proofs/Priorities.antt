-- A queue that owns its priorities: what the calls of its heap make of it.
use Rattle.std.proofs.Common.{◌≡◌, ◌≢◌, ℕ, zero, suc, ◌+◌, ◌<◌, ◌≤◌, Bool, true, false, ◌||◌, not, if◌then◌else◌, List, [], ◌∷◌, ◌++◌, length, get_or, Option, Some, None, Ordering, refl, ap, sym, ◌∙◌, ⊎_elim, arith, ltb}
use Rattle.std.specs.Prelude.{slice_get, slice_set, is_some, IfNone, IfSome}
use Rattle.std.proofs.Math.ListN.{set}
use Rattle.std.specs.Bool.{beq}
use Rattle.std.specs.Cmp.{IsTotalOrder, bool_eq_equiv}
use Rattle.std.specs.List.{list_all}
use Rattle.std.specs.List.Sorted.{IsPermutation}
use Rattle.std.specs.Option.{option_cmp}
use Rattle.std.specs.Ordering.{is_ge, is_le, nat_cmp}
use Rattle.std.proofs.lemmas.Bool.{and_from, and_parts, cases_Bool, eqb-true, false≢true}
use Rattle.std.proofs.lemmas.Cmp.{nat_cmp_total}
use Rattle.std.proofs.lemmas.List.{length-set, length-append}
use Rattle.std.proofs.lemmas.List.Sorted.{IsPermutation-cons, IsPermutation-refl, IsPermutation-trans, length_permutation}
use Rattle.std.proofs.lemmas.Map.Keys.{le_from_is_le}
use Rattle.std.proofs.lemmas.Option.{IfSome_then, slice_get-get_or}
use Rattle.giputils_bounded.specs.Prelude.{AgreeOn, AreBelow, Bounded, ComesFirst, HoldAlike, HoldsWithin, IsGreatest, IsHeld, IsInOrder, Pops, Pushes, Removes, TakesGreatest, Updates, by_ord, is_held, push_bound, same_key, update_bound}
use Rattle.giputils_bounded.proofs.Greatest.{IsHeld-greatest}
use Rattle.giputils_bounded.proofs.HoldAlike.{HoldAlike-cons, HoldAlike-IsPermutation, list_all-fewer}
use Rattle.giputils_bounded.proofs.KeySets.{all_pass_from_held, is_held-below, is_held-head, pass_at_held, AreBelow-IsPermutation, AreBelow-mono}
use Rattle.giputils_bounded.proofs.OrderLaws.{IsInOrder-agree}
use Rattle.giputils_heap.specs.Priorities.{Prioritized, priority_of, ChangesAt, IsFirst, IsPrioritized, Joins}
use Rattle.giputils_heap.proofs.Orders.{ge_turned_back, greatest_ord, greatest-by_ord, IsLawful-by_ord, kept-by_ord, pushed-by_ord, repaired-by_ord, slice_get-set_other, slice_get-set_same}
use Rattle.giputils_heap.proofs.Pushes.{HoldAlike-pushes}

-- what stands in front of more items is read as before
slice_get-in_front : {X : Type 0} (xs more : List X) (i : ℕ) → i < length xs → slice_get (xs ++ more) i ≡ slice_get xs i
slice_get-in_front [] more i inside = absurd (omega (arith, inside))
slice_get-in_front (x ∷ xs) more zero inside = refl
slice_get-in_front (x ∷ xs) more (suc i) inside = slice_get-in_front xs more i (omega (arith, inside))

-- a value that is looked up under a test was found, and passed it
found : {X : Type 0} (b : Bool) (o : Option X) (x : X) → (if b then o else None) ≡ Some x → (b ≡ true) × (o ≡ Some x)
found true o x there = (refl, there)
found false o x there = absurd (false≢true (ap is_some there))

module _ {T : Type 0} (number : T → ℕ) where
  -- a key of another number is among the keys and v where it is among the keys
  is_held-other : (v k : T) (keys : List T) → number k ≢ number v → is_held number (v ∷ keys) k ≡ is_held number keys k
  is_held-other v k keys apart =
      ⊎_elim (λ same. absurd (apart (eqb-true (number k) (number v) same))) (λ other. ap (λ b. b || is_held number keys k) other)
      (cases_Bool (same_key number k v))

module _ {T P : Type 0} where
  abbrev queue_of : List T → List P → ℕ → Prioritized T P
  queue_of keys table count = record { keys = keys; priorities = table; comparisons = count }

module _ {T P : Type 0} (number : T → ℕ) where
  -- a key that has a priority in the queue is held, and the table has that of its number
  pub held-priority : (queue : Prioritized T P) (k : T) (p : P) → priority_of number queue k ≡ Some p
      → (is_held number queue.keys k ≡ true) × (slice_get queue.priorities (number k) ≡ Some p)
  held-priority queue k p there = found (is_held number queue.keys k) (slice_get queue.priorities (number k)) p there

  -- a key that joins is held with its priority in the table
  pub ChangesAt-joined : (v : T) (keys new : List T) (table : List P) (a b : ℕ) → HoldAlike number new (v ∷ keys)
      → ChangesAt number v (slice_get table (number v)) (queue_of keys table a) (queue_of new table b)
  ChangesAt-joined v keys new table a b alike = record {
    here = rw (alike v ∙ is_held-head number v keys) refl;
    others = λ k apart. rw (alike k ∙ is_held-other number v k keys apart) refl;
  }

  -- where the table changes at v, the priority with which v is held does
  pub ChangesAt-changed : (v : T) (p : P) (keys new : List T) (table : List P) (a b : ℕ) → HoldAlike number new keys
      → (IsHeld number keys v → number v < length table)
      → ChangesAt number v (if is_held number keys v then Some p else None) (queue_of keys table a) (queue_of new (slice_set table (number v) p) b)
  ChangesAt-changed v p keys new table a b alike inside = record {
    here = rw (alike v)
        (⊎_elim
        (λ held. rw (held, slice_get-set_same table (number v) (get_or table (number v) p) p (slice_get-get_or table (number v) p (inside held))) refl)
        (λ absent. rw absent refl) (cases_Bool (is_held number keys v)));
    others = λ k apart. rw (alike k, slice_get-set_other table (number v) (number k) p apart) refl;
  }

  -- one change of a key after another is the second
  pub ChangesAt-again : (v : T) (p q : Option P) (x y z : Prioritized T P) → ChangesAt number v p x y → ChangesAt number v q y z
      → ChangesAt number v q x z
  ChangesAt-again v p q x y z first second =
      record { here = second.here; others = λ k apart. second.others k apart ∙ first.others k apart }

  -- no held key gets another priority where the table gets longer
  pub priority_of-filled : (keys : List T) (table more : List P) (a b : ℕ) → AreBelow number (length table) keys → (k : T)
      → priority_of number (queue_of keys (table ++ more) a) k ≡ priority_of number (queue_of keys table b) k
  priority_of-filled keys table more a b below k =
      ⊎_elim (λ held. rw (held, slice_get-in_front table more (number k) (is_held-below number (length table) keys k below held)) refl)
      (λ absent. rw absent refl) (cases_Bool (is_held number keys k))

module _ {T : Type 0} (number : T → ℕ) where
  -- a push holds the key as well
  pub Joins-pushes : {R : T → T → Bool} (v : T) (old new : List T) → Pushes number R v old new → Joins number v old new
  Joins-pushes v old new pushed = record {
    moved = λ held. rw (pushed.stays held) (IsPermutation-refl old);
    added = pushed.added;
    alike = HoldAlike-pushes number pushed;
  }

  -- and so it does where the keys were moved before
  pub Joins-moved : (v : T) (old mid new : List T) → IsPermutation old mid → Joins number v mid new → Joins number v old new
  Joins-moved v old mid new moves joins =
      let same = HoldAlike-IsPermutation number old mid moves in
      record {
        moved = λ held. IsPermutation-trans old mid new moves (joins.moved (sym (same v) ∙ held));
        added = λ absent. IsPermutation-trans (v ∷ old) (v ∷ mid) new (IsPermutation-cons v old mid moves) (joins.added (sym (same v) ∙ absent));
        alike = λ q. joins.alike q ∙ sym (HoldAlike-cons number v old mid same q);
      }

  -- a held key is moved, and one that is not held is pushed
  pub compared-both : (v : T) (keys mid : List T) (x y z : ℕ) → IsPermutation keys mid
      → y ≤ x + (if is_held number keys v then update_bound (length keys) else 0)
      → z ≤ y + (if is_held number mid v then 0 else push_bound (length mid))
      → z ≤ x + (if is_held number keys v then update_bound (length keys) else push_bound (length keys))
  compared-both v keys mid x y z moves first second =
      let same = HoldAlike-IsPermutation number keys mid moves v in
      let len : length mid ≡ length keys = let l = length_permutation keys mid moves in omega (arith, l) in
      ⊎_elim
      (λ held. rw held (let one = rw held at first in let two = rw (sym same ∙ held) at second in omega (arith, one, two)))
      (λ absent. rw absent (let one = rw absent at first in let two = rw (sym same ∙ absent, len) at second in omega (arith, one, two)))
      (cases_Bool (is_held number keys v))

module _ {T P : Type 0} (number : T → ℕ) (one_value : (x y : T) → number x ≡ number y → x ≡ y) (cmp : P → P → Ordering) (order : IsTotalOrder cmp) where
  -- a greatest key by the table comes first
  pub IsFirst-greatest : (keys : List T) (table : List P) (a : ℕ) (k : T) (p : P) → IsGreatest number (by_ord number cmp table) keys k
      → slice_get table (number k) ≡ Some p → IsFirst number cmp (queue_of keys table a) k p
  IsFirst-greatest keys table a k p greatest there = record {
    held = rw (IsHeld-greatest number (by_ord number cmp table) keys k greatest) there;
    greatest = λ other q with_q.
        let at_q = found (is_held number keys other) (slice_get table (number other)) q with_q in
        let most : is_le (option_cmp cmp (slice_get table (number other)) (slice_get table (number k))) ≡ true =
        greatest_ord number cmp order one_value table keys k greatest other at_q.0 in
        rw (at_q.1, there) at most;
    ties = λ other q with_q equal.
        let at_q = found (is_held number keys other) (slice_get table (number other)) q with_q in
        let parts = and_parts (is_held number keys k) (list_all (by_ord number cmp table k) keys) greatest in
        let at_least : by_ord number cmp table k other ≡ true = pass_at_held number one_value (by_ord number cmp table k) keys other parts.1 at_q.0 in
        let by_number : is_ge (nat_cmp (number k) (number other)) ≡ true =
        rw (there, at_q.1, order.antisymm p q, equal) at at_least in
        le_from_is_le (number other) (number k)
        (rw (nat_cmp_total.antisymm (number other) (number k)) (ge_turned_back (nat_cmp (number k) (number other)) by_number));
  }

  -- what a call took that was lent the table `now`, which is this one, comes first
  pub IsFirst-popped : (keys : List T) (table : List P) (a : ℕ) (now : List P) → now ≡ table → IsInOrder (by_ord number cmp table) keys
      → (answer : Option T) → IfSome answer (TakesGreatest number (by_ord number cmp now) keys)
      → IfSome answer (λ k. (p : P) → slice_get table (number k) ≡ Some p → IsFirst number cmp (queue_of keys table a) k p)
  IsFirst-popped keys table a now same ordered answer takes =
      IfSome_then answer takes
      (λ k taken p there. IsFirst-greatest keys table a k p (greatest-by_ord number cmp order table now same keys k taken ordered) there)

  -- and so does what stands first
  pub IsFirst-peeked : (keys : List T) (table : List P) (a : ℕ) → IsInOrder (by_ord number cmp table) keys → (k : T) (p : P)
      → ComesFirst number keys k → slice_get table (number k) ≡ Some p → IsFirst number cmp (queue_of keys table a) k p
  IsFirst-peeked keys table a ordered k p first there =
      IsFirst-greatest keys table a k p (first (by_ord number cmp table) ordered (IsLawful-by_ord number cmp order table keys)) there

  -- a longer table compares the held keys alike
  IsInOrder-filled : (keys : List T) (table more : List P) → AreBelow number (length table) keys → IsInOrder (by_ord number cmp table) keys
      → IsInOrder (by_ord number cmp (table ++ more)) keys
  IsInOrder-filled keys table more below ordered =
      let by = by_ord number cmp table in
      let by_more = by_ord number cmp (table ++ more) in
      let same : (k : T) → is_held number keys k ≡ true → slice_get (table ++ more) (number k) ≡ slice_get table (number k) =
      λ k held. slice_get-in_front table more (number k) (is_held-below number (length table) keys k below held) in
      let agree : AgreeOn by by_more keys =
      all_pass_from_held number one_value (λ x. list_all (λ y. beq (by x y) (by_more x y)) keys) keys
      (λ x x_held. all_pass_from_held number one_value (λ y. beq (by x y) (by_more x y)) keys
      (λ y y_held. rw (same x x_held, same y y_held) (bool_eq_equiv.refl (by x y)))) in
      IsInOrder-agree by by_more keys ordered agree

  -- keys that are all among others are below what the others are below
  AreBelow-fewer : (limit : ℕ) (xs ys : List T) → HoldsWithin number xs ys → AreBelow number limit ys → AreBelow number limit xs
  AreBelow-fewer limit xs ys within below = list_all-fewer number one_value (λ k. ltb (number k) limit) xs ys within below

  -- ---- the heap and the table after a call of the heap that was lent the table `now`, which is this one
  module _ (heap new : Bounded T) (table : List P) (queued : IsPrioritized number cmp heap table) (same_bound : new.bound ≡ heap.bound) where
    module _ (now : List P) (same : now ≡ table) where
      -- a push
      pub IsPrioritized-pushed : (v : T) → number v < length table → Pushes number (by_ord number cmp now) v heap.keys new.keys
          → IsPrioritized number cmp new table
      IsPrioritized-pushed v inside pushed = record {
        in_order = pushed-by_ord number cmp order table now same heap.keys new.keys v pushed.in_order queued.in_order;
        bound = same_bound ∙ queued.bound;
        below = AreBelow-fewer (length table) new.keys (v ∷ heap.keys) pushed.within
            (and_from (ltb (number v) (length table)) (list_all (λ k. ltb (number k) (length table)) heap.keys) (grind (arith, inside)) queued.below);
      }

      -- a pop
      pub IsPrioritized-popped : (k : Option T) → Pops number (by_ord number cmp now) heap.keys new.keys k → IsPrioritized number cmp new table
      IsPrioritized-popped k popped = record {
        in_order = kept-by_ord number cmp order table now same heap.keys new.keys popped.in_order queued.in_order;
        bound = same_bound ∙ queued.bound;
        below = left k popped.none popped.taken;
      } where
        left : (o : Option T) → IfNone o (new.keys ≡ heap.keys) → IfSome o (λ x. IsPermutation heap.keys (x ∷ new.keys)) → AreBelow number (length table) new.keys
        left None none taken = rw none queued.below
        left (Some x) none taken =
            (and_parts (ltb (number x) (length table)) (list_all (λ k. ltb (number k) (length table)) new.keys)
            (AreBelow-IsPermutation number (length table) heap.keys (x ∷ new.keys) taken queued.below)).1

      -- a removal
      pub IsPrioritized-removed : (v : T) (was_held : Bool) → Removes number (by_ord number cmp now) v heap.keys new.keys was_held
          → IsPrioritized number cmp new table
      IsPrioritized-removed v was_held removed = record {
        in_order = kept-by_ord number cmp order table now same heap.keys new.keys removed.in_order queued.in_order;
        bound = same_bound ∙ queued.bound;
        below = AreBelow-fewer (length table) new.keys heap.keys
            (λ q here. (and_parts (is_held number heap.keys q) (not (same_key number v q)) (sym (removed.others q) ∙ here)).0) queued.below;
      }

    -- an update, where the priority of v became p
    pub IsPrioritized-updated : (v : T) (p : P) (now : List P) → now ≡ slice_set table (number v) p
        → Updates number (by_ord number cmp now) v heap.keys new.keys → IsPrioritized number cmp new (slice_set table (number v) p)
    IsPrioritized-updated v p now same updated = record {
      in_order = repaired-by_ord number cmp order v table p now same heap.keys new.keys updated.repaired queued.in_order;
      bound = same_bound ∙ queued.bound ∙ sym (length-set table (number v) p);
      below = rw (length-set table (number v) p) (AreBelow-IsPermutation number (length table) heap.keys new.keys updated.moved queued.below);
    }

  -- a table that has got longer, with the heap's bound
  pub IsPrioritized-filled : (heap new : Bounded T) (table more : List P) → IsPrioritized number cmp heap table → new.keys ≡ heap.keys
      → new.bound ≡ length (table ++ more) → IsPrioritized number cmp new (table ++ more)
  IsPrioritized-filled heap new table more queued same_keys bound = record {
    in_order = rw same_keys (IsInOrder-filled heap.keys table more queued.below queued.in_order);
    bound = bound;
    below = rw same_keys (AreBelow-mono number (length table) (length (table ++ more)) heap.keys (rw (length-append table more) (omega arith)) queued.below);
  }
