-- What comes first in a queue of numbers: by score the most active variable, and by deadline the earliest timer.
use Rattle.std.proofs.Common.{◌≡◌, ℕ, zero, suc, ◌≤◌, true, List, ◌∷◌, get_or, Option, Some, None, refl, ap, sym, ◌∙◌, subst, arith}
use Rattle.std.specs.Prelude.{map, replicate, slice_get, slice_index, slice_set, is_some}
use Rattle.std.specs.Option.{option_map, unwrap_or}
use Rattle.std.specs.Ordering.{is_le, nat_cmp}
use Rattle.std.specs.declared.cmp.Reverse.{Reverse}
use Rattle.std.proofs.lemmas.Bool.{false≢true}
use Rattle.std.proofs.Math.ListN.{get_or-map}
use Rattle.std.proofs.lemmas.List.{map-set}
use Rattle.std.proofs.lemmas.Map.Keys.{le_from_is_le}
use Rattle.std.proofs.lemmas.Option.{get_or_from_slice_get, same_Some, slice_get-map, unwrap_or-slice_get}
use Rattle.giputils.specs.Priorities.{Prioritized, IsFirst}
use Rattle.giputils.proofs.Priorities.{held-priority}
use Rattle.giputils_uses.specs.Clock.{deadlines_of, IsEarliest}
use Rattle.giputils_uses.specs.Ranked.{HasGreatestRank}

-- a value that is at most a number where there is one, and 0 where there is none
unwrap_or-le : (o : Option ℕ) (most : ℕ) → ((q : ℕ) → o ≡ Some q → q ≤ most) → unwrap_or o 0 ≤ most
unwrap_or-le None most each = omega arith
unwrap_or-le (Some q) most each = each q refl

-- the first by score has the greatest
pub HasGreatestRank-first : (queue : Prioritized ℕ ℕ) (k p : ℕ) → IsFirst (λ n. n) nat_cmp queue k p → HasGreatestRank queue.priorities queue.keys k
HasGreatestRank-first queue k p first =
    let at_k = held-priority (λ n. n) queue k p first.held in
    record {
      held = at_k.0;
      greatest = λ other held.
          rw (get_or_from_slice_get queue.priorities k p 0 at_k.1, ← unwrap_or-slice_get queue.priorities other 0)
          (unwrap_or-le (slice_get queue.priorities other) p (λ q there. le_from_is_le q p (first.greatest other q (rw held there))));
    }

-- a deadline that there is is no earlier than one that comes first
deadline-le : (o : Option (Reverse ℕ)) (least deadline : ℕ) → ((q : Reverse ℕ) → o ≡ Some q → is_le (nat_cmp least q.0) ≡ true)
    → option_map (λ r. r.0) o ≡ Some deadline → least ≤ deadline
deadline-le None least deadline each there = absurd (false≢true (ap is_some there))
deadline-le (Some q) least deadline each there =
    let at_most : is_le (nat_cmp least q.0) ≡ true = each q refl in
    let same : q.0 ≡ deadline = same_Some q.0 deadline there in
    subst (λ d. least ≤ d) same (le_from_is_le least q.0 at_most)

-- the first by deadline has the earliest
pub IsEarliest-first : (queue : Prioritized ℕ (Reverse ℕ)) (k : ℕ) (p : Reverse ℕ) → IsFirst (λ n. n) (λ x y. nat_cmp y.0 x.0) queue k p
    → IsEarliest record { running = queue.keys; deadlines = deadlines_of queue.priorities } k
IsEarliest-first queue k p first =
    let table = queue.priorities in
    let at_k = held-priority (λ n. n) queue k p first.held in
    record {
      runs = at_k.0;
      earliest = λ other deadline runs there.
          rw (get_or_from_slice_get (deadlines_of table) k p.0 0 (slice_get-map (λ r. r.0) table k ∙ ap (option_map (λ r. r.0)) at_k.1))
          (deadline-le (slice_get table other) p.0 deadline (λ q at_q. first.greatest other q (rw runs at_q))
          (sym (slice_get-map (λ r. r.0) table other) ∙ there));
    }

-- ---- the deadlines in a table of equal priorities, and in one that changed at a timer
pub deadlines_of-replicate : (n d : ℕ) → deadlines_of (replicate n (record { 0 = d })) ≡ replicate n d
deadlines_of-replicate zero d = refl
deadlines_of-replicate (suc n) d = ap (λ ds. d ∷ ds) (deadlines_of-replicate n d)

pub deadlines_of-set : (table : List (Reverse ℕ)) (timer d : ℕ) → deadlines_of (slice_set table timer (record { 0 = d })) ≡ slice_set (deadlines_of table) timer d
deadlines_of-set table timer d = map-set (λ r. r.0) table timer (record { 0 = d })

pub slice_index-deadlines_of : (table : List (Reverse ℕ)) (timer : ℕ) → slice_index (deadlines_of table) timer ≡ (get_or table timer (record { 0 = 0 })).0
slice_index-deadlines_of table timer = get_or-map (λ r. r.0) table timer (record { 0 = 0 })
