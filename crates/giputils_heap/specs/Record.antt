-- The record of a run of a heap, what its replies have to be, and how often its steps may compare.
use Rattle.std.specs.Prelude.{◌≡◌, ℕ, ◌+◌, ◌-◌, ◌*◌, ◌≤◌, ◌==◌, nat_lt, nat_le, Bool, true, false, ◌&&◌, ◌||◌, not, if◌then◌else◌, List, [], ◌∷◌, length, take, IsTrue, IsFalse, Option, Some, None}
use Rattle.std.specs.Bool.{beq}
use Rattle.std.specs.List.{All, AllZip}
use Rattle.giputils_bounded.specs.Prelude.{agree_on, agrees_except, count_limit, down_bound, has_fallen, has_risen, is_greatest, is_held, is_lawful, key_limit, pop_bound, push_bound, rebuild_bound, up_bound, update_bound, without}
use Rattle.giputils_heap.specs.declared.run.HeapCall.{HeapCall}
use Rattle.giputils_heap.specs.declared.run.HeapCall.TheVariants.{Push, Pop, Up, Down, Update, Rebuild, Clear, Len, IsEmpty}
use Rattle.giputils_heap.specs.declared.run.HeapReply.{HeapReply}
use Rattle.giputils_heap.specs.declared.run.HeapReply.TheVariants.{Done, Refused, Skipped, Popped, Length, Empty}
use Rattle.giputils_heap.specs.declared.run.HeapStep.{HeapStep}

-- a step that was run: the call, the value of the comparer that it was lent, how often that was asked, and the reply
pub record Entry (T C : Type 0) : Type 0 where
  pub call : HeapCall T
  pub comparer : C
  pub comparisons : ℕ
  pub reply : HeapReply T

-- what a record's steps so far have come to: the held keys, each once; whether the comparisons have been steady since
-- nothing was last held or all was last rebuilt; and the comparer that was last lent since then to a step that may
-- compare
pub record Progress (T C : Type 0) : Type 0 where
  pub held : List T
  pub steady : Bool
  pub last : Option C

-- whether nothing is listed
abbrev pub is_nil : {T : Type 0} → List T → Bool
is_nil [] = true
is_nil (x ∷ xs) = false

-- the record of a run, from its steps before and after it and from its replies
abbrev pub record_of : {T C : Type 0} → List (HeapStep T C) → List (HeapStep T C) → List (HeapReply T)
    → List (Entry T C)
record_of (s ∷ before) (t ∷ after) (r ∷ replies) =
    record { call = s.call; comparer = s.cmp.comparer; comparisons = t.cmp.count - s.cmp.count; reply = r }
    ∷ record_of before after replies
record_of _ _ _ = []

module _ {T : Type 0} where
  -- whether a call may compare keys
  abbrev pub may_compare : HeapCall T → Bool
  may_compare Clear = false
  may_compare Len = false
  may_compare IsEmpty = false
  may_compare _ = true

  -- the keys that a call may compare: those held, and the one handed in
  abbrev pub compared_keys : List T → HeapCall T → List T
  compared_keys held (Push v) = v ∷ held
  compared_keys held (Up v) = v ∷ held
  compared_keys held (Down v) = v ∷ held
  compared_keys held (Update v) = v ∷ held
  compared_keys held _ = held

module _ {T : Type 0} (number : T → ℕ) where
  -- the held keys after a call with this reply
  abbrev pub held_after : List T → HeapCall T → HeapReply T → List T
  held_after held (Push v) Done = if is_held number held v then held else (v ∷ held)
  held_after held Pop (Popped (Some k)) = without number held k
  held_after held Clear Done = []
  held_after held _ _ = held

  -- whether a call that finds these keys held may have this reply; a pop of a greatest key is owed where `steady`
  abbrev pub may_reply : (T → T → Bool) → Bool → List T → HeapCall T → HeapReply T → Bool
  may_reply R steady held (Push v) Done = nat_lt (number v) key_limit
  may_reply R steady held (Push v) Refused = nat_lt (number v) key_limit && not (is_held number held v)
  may_reply R steady held (Push v) Skipped = number v == key_limit
  may_reply R steady held Pop (Popped None) = is_nil held
  may_reply R steady held Pop (Popped (Some k)) = is_held number held k && (not steady || is_greatest number R held k)
  may_reply R steady held (Up v) Done = true
  may_reply R steady held (Down v) Done = true
  may_reply R steady held (Update v) Done = true
  may_reply R steady held Rebuild Done = true
  may_reply R steady held Clear Done = true
  may_reply R steady held Len (Length n) = n == length held
  may_reply R steady held IsEmpty (Empty b) = beq b (is_nil held)
  may_reply R steady held _ _ = false

  -- the most comparisons of a call that finds these keys held
  abbrev pub comparison_bound : List T → HeapCall T → ℕ
  comparison_bound held (Push v) =
      if nat_lt (number v) key_limit && not (is_held number held v) then push_bound (length held) else 0
  comparison_bound held Pop = pop_bound (length held)
  comparison_bound held (Up v) = if is_held number held v then up_bound (length held) else 0
  comparison_bound held (Down v) = if is_held number held v then down_bound (length held) else 0
  comparison_bound held (Update v) = if is_held number held v then update_bound (length held) else 0
  comparison_bound held Rebuild = rebuild_bound (length held)
  comparison_bound held _ = 0

module _ {T C : Type 0} where
  -- before the first step nothing is held
  abbrev pub start : Progress T C
  start = record { held = []; steady = true; last = None }

  -- where nothing is held, no comparison made so far counts any more
  abbrev pub start_if_empty : Progress T C → Progress T C
  start_if_empty p = if is_nil p.held then start else p

  -- the progress that a call goes on from: at a Rebuild, too, no comparison made so far counts any more
  abbrev pub start_anew : Progress T C → HeapCall T → Progress T C
  start_anew p Rebuild = start
  start_anew p _ = start_if_empty p

module _ {T C : Type 0} (number : T → ℕ) (at_least : C → T → T → Bool) where
  -- whether a call's comparer compares the held keys as the last comparer did, if there is one; an Update may come with
  -- other comparisons of its own key, an Up with some by which that has risen, a Down with some by which it has fallen
  abbrev pub agrees_with_last : Option C → HeapCall T → C → List T → Bool
  agrees_with_last None call c held = true
  agrees_with_last (Some b) (Up v) c held =
      agree_on (at_least b) (at_least c) held
      || (agrees_except number v (at_least b) (at_least c) held && has_risen v (at_least b) (at_least c) held)
  agrees_with_last (Some b) (Down v) c held =
      agree_on (at_least b) (at_least c) held
      || (agrees_except number v (at_least b) (at_least c) held && has_fallen v (at_least b) (at_least c) held)
  agrees_with_last (Some b) (Update v) c held = agrees_except number v (at_least b) (at_least c) held
  agrees_with_last (Some b) call c held = agree_on (at_least b) (at_least c) held

  -- whether the comparisons stay steady at a step: lawful on the keys concerned, and as they were
  abbrev pub is_steady_at : Progress T C → HeapCall T → C → Bool
  is_steady_at p call c =
      let before : Progress T C = start_anew p call in
      if may_compare call
      then (before.steady
      && (is_lawful (at_least c) (compared_keys p.held call) && agrees_with_last before.last call c p.held))
      else before.steady

  -- the progress after one more call, which was lent this comparer and had this reply
  abbrev pub after_call : Progress T C → HeapCall T → C → HeapReply T → Progress T C
  after_call p call c reply =
      record {
        held = held_after number p.held call reply;
        steady = is_steady_at p call c;
        last = if may_compare call then Some c else (start_anew p call).last;
      }

  -- whether a call that is lent this comparer may have this reply after this progress
  abbrev pub may_answer : Progress T C → HeapCall T → C → HeapReply T → Bool
  may_answer p call c reply = may_reply number (at_least c) (is_steady_at p call c) p.held call reply

  -- the progress after these steps
  abbrev pub progress_from : Progress T C → List (Entry T C) → Progress T C
  progress_from p [] = p
  progress_from p (e ∷ es) = progress_from (after_call p e.call e.comparer e.reply) es

  -- whether every step may reply as it did
  abbrev pub answers_from : Progress T C → List (Entry T C) → Bool
  answers_from p [] = true
  answers_from p (e ∷ es) =
      may_answer p e.call e.comparer e.reply && answers_from (after_call p e.call e.comparer e.reply) es

  -- a run from the empty heap may have this record: the heap answers as a set, and its pops give greatest keys
  abbrev pub Answers : List (Entry T C) → Type 0
  Answers entries = IsTrue (answers_from start entries)

  -- whether up to step i, since nothing was last held or all was last rebuilt, the comparisons were lawful and changed
  -- for one key at a time, at an Update of that key, at an Up where it has risen, or at a Down where it has fallen
  abbrev pub is_steady : List (Entry T C) → ℕ → Bool
  is_steady entries i = (progress_from start (take (i + 1) entries)).steady

  -- step i is steady
  abbrev pub IsSteady : List (Entry T C) → ℕ → Type 0
  IsSteady entries i = IsTrue (is_steady entries i)

module _ {T C : Type 0} (number : T → ℕ) where
  -- the held keys after these steps
  abbrev pub held_from : List T → List (Entry T C) → List T
  held_from held [] = held
  held_from held (e ∷ es) = held_from (held_after number held e.call e.reply) es

  -- the keys that are held before step i of a record
  abbrev pub held_before : List (Entry T C) → ℕ → List T
  held_before entries i = held_from [] (take i entries)

  -- whether every step compares no oftener than its bound
  abbrev pub keeps_counts_from : List T → List (Entry T C) → Bool
  keeps_counts_from held [] = true
  keeps_counts_from held (e ∷ es) =
      nat_le e.comparisons (comparison_bound number held e.call)
      && keeps_counts_from (held_after number held e.call e.reply) es

  -- every step compares no oftener than its bound in the number of keys held before it
  abbrev pub KeepsCounts : List (Entry T C) → Type 0
  KeepsCounts entries = IsTrue (keeps_counts_from [] entries)

  -- step i of a record compares no oftener than its bound
  abbrev pub KeepsCountAt : List (Entry T C) → ℕ → Entry T C → Type 0
  KeepsCountAt entries i e = e.comparisons ≤ comparison_bound number (held_before entries i) e.call

module _ {T C : Type 0} (number : T → ℕ) (at_least : C → T → T → Bool) where
  -- step i of a record may reply as it did to the keys that are held before it
  abbrev pub AnswersAt : List (Entry T C) → ℕ → Entry T C → Type 0
  AnswersAt entries i e =
      IsTrue (may_reply number (at_least e.comparer) (is_steady number at_least entries i)
      (held_before number entries i) e.call e.reply)

-- a call compares no oftener, whatever is held: fewer than 2^32 keys are
abbrev pub most_comparisons : {T : Type 0} → HeapCall T → ℕ
most_comparisons Rebuild = 2 * key_limit
most_comparisons _ = 2 * 31

module _ {T C : Type 0} where
  -- a step keeps its call and its comparer, and its counter rises by what was compared
  pub record KeepsStep (old new : HeapStep T C) : Type 0 where
    pub call : new.call ≡ old.call
    pub comparer : new.cmp.comparer ≡ old.cmp.comparer
    pub rises : old.cmp.count ≤ new.cmp.count
    pub comparisons : new.cmp.count ≤ old.cmp.count + most_comparisons old.call
    pub uncompared : IsFalse (may_compare old.call) → new.cmp.count ≡ old.cmp.count

  -- every step keeps its call and its comparer
  abbrev pub KeepsSteps : List (HeapStep T C) → List (HeapStep T C) → Type 0
  KeepsSteps old new = AllZip KeepsStep old new

  -- every counter may still count what a step compares
  abbrev pub CanCount : List (HeapStep T C) → Type 0
  CanCount steps = All (λ s. s.cmp.count ≤ count_limit) steps
