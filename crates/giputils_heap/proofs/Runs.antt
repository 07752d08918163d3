-- A run that has come to a step, and its next step.
use Rattle.std.proofs.Common.{◌≡◌, ℕ, ◌+◌, ◌-◌, ◌<◌, ◌≤◌, Bool, true, List, [], ◌∷◌, ◌++◌, length, take, drop, get_or, leb, refl, ap, ◌∙◌, arith, IsFalse}
use Rattle.std.proofs.Math.ListN.{set}
use Rattle.std.proofs.lemmas.Bool.{and_parts, and_from, le-leb}
use Rattle.std.proofs.lemmas.List.{take_more, take_more_set, take_all, get_or-drop, drop-set-lt, length-take-le, length-append, length-set}
use Rattle.std.proofs.lemmas.Grind.{drop_more_same}
use Rattle.std.proofs.Math.Nat.{add-zero}
use Rattle.std.proofs.lemmas.List.Elements.{AllZip-push}
use Rattle.giputils_heap.specs.Record.{Entry, Progress, start, may_compare, held_after, held_from, comparison_bound, after_call, may_answer, progress_from, answers_from, keeps_counts_from, record_of, Answers, KeepsCounts, KeepsStep, KeepsSteps}
use Rattle.giputils_bounded.specs.Prelude.{Counted, IsInOrder}
use Rattle.giputils_bounded.proofs.KeySets.{AreDistinct-nil}
use Rattle.giputils_heap.proofs.Records.{progress_from-held, AreDistinct-from, AreBelow-from}
use Rattle.giputils_heap.proofs.CallBounds.{comparison_bound-most}
use Rattle.giputils_heap.specs.Stands.{Stands}
use Rattle.giputils_heap.specs.declared.run.HeapReply.{HeapReply}
use Rattle.giputils_heap.specs.declared.run.HeapStep.{HeapStep}

-- the entry of a step
pub entry_of : {T C : Type 0} → HeapStep T C → HeapStep T C → HeapReply T → Entry T C
entry_of s t r = record { call = s.call; comparer = s.cmp.comparer; comparisons = t.cmp.count - s.cmp.count; reply = r }

module _ {T C : Type 0} where
  record_of-append : (xs ys : List (HeapStep T C)) (rs : List (HeapReply T)) (s t : HeapStep T C) (r : HeapReply T) → length xs ≡ length rs
      → length ys ≡ length rs
      → record_of (xs ++ s ∷ []) (ys ++ t ∷ []) (rs ++ r ∷ []) ≡ record_of xs ys rs ++ entry_of s t r ∷ []
  unfolding entry_of
  record_of-append [] [] [] s t r xs_long ys_long = refl
  record_of-append (x ∷ xs) (y ∷ ys) (q ∷ rs) s t r xs_long ys_long =
      ap (λ es. entry_of x y q ∷ es) (record_of-append xs ys rs s t r (omega arith) (omega arith))
  record_of-append [] [] (q ∷ rs) s t r xs_long ys_long = absurd (omega arith)
  record_of-append [] (y ∷ ys) [] s t r xs_long ys_long = absurd (omega arith)
  record_of-append [] (y ∷ ys) (q ∷ rs) s t r xs_long ys_long = absurd (omega arith)
  record_of-append (x ∷ xs) [] [] s t r xs_long ys_long = absurd (omega arith)
  record_of-append (x ∷ xs) [] (q ∷ rs) s t r xs_long ys_long = absurd (omega arith)
  record_of-append (x ∷ xs) (y ∷ ys) [] s t r xs_long ys_long = absurd (omega arith)

module _ {T C : Type 0} (number : T → ℕ) (at_least : C → T → T → Bool) where
  progress_from-append : (p : Progress T C) (es : List (Entry T C)) (e : Entry T C)
      → progress_from number at_least p (es ++ e ∷ []) ≡ after_call number at_least (progress_from number at_least p es) e.call e.comparer e.reply
  progress_from-append p [] e = refl
  progress_from-append p (x ∷ es) e = progress_from-append (after_call number at_least p x.call x.comparer x.reply) es e

  answers_from-append : (p : Progress T C) (es : List (Entry T C)) (e : Entry T C)
      → answers_from number at_least p es ≡ true → may_answer number at_least (progress_from number at_least p es) e.call e.comparer e.reply ≡ true
      → answers_from number at_least p (es ++ e ∷ []) ≡ true
  answers_from-append p [] e answers may = and_from (may_answer number at_least p e.call e.comparer e.reply) true may refl
  answers_from-append p (x ∷ es) e answers may =
      let parts =
      and_parts (may_answer number at_least p x.call x.comparer x.reply)
      (answers_from number at_least (after_call number at_least p x.call x.comparer x.reply) es) answers
      in
      and_from (may_answer number at_least p x.call x.comparer x.reply)
      (answers_from number at_least (after_call number at_least p x.call x.comparer x.reply) (es ++ e ∷ []))
      parts.0 (answers_from-append (after_call number at_least p x.call x.comparer x.reply) es e parts.1 may)

  keeps_counts_from-append : (held : List T) (es : List (Entry T C)) (e : Entry T C)
      → keeps_counts_from number held es ≡ true → e.comparisons ≤ comparison_bound number (held_from number held es) e.call
      → keeps_counts_from number held (es ++ e ∷ []) ≡ true
  keeps_counts_from-append held [] e keeps within =
      and_from (leb e.comparisons (comparison_bound number held e.call)) true (le-leb e.comparisons (comparison_bound number held e.call) within) refl
  keeps_counts_from-append held (x ∷ es) e keeps within =
      let parts =
      and_parts (leb x.comparisons (comparison_bound number held x.call))
      (keeps_counts_from number (held_after number held x.call x.reply) es) keeps
      in
      and_from (leb x.comparisons (comparison_bound number held x.call)) (keeps_counts_from number (held_after number held x.call x.reply) (es ++ e ∷ []))
      parts.0 (keeps_counts_from-append (held_after number held x.call x.reply) es e parts.1 within)

  -- the first i steps were run
  pub record HasRun (old now : List (HeapStep T C)) (i : ℕ) (replies : List (HeapReply T)) (keys : List T) : Type 0 where
    pub replied : length replies ≡ i
    pub same_length : length now ≡ length old
    pub answers : answers_from number at_least start (record_of (take i old) (take i now) replies) ≡ true
    pub counts : keeps_counts_from number [] (record_of (take i old) (take i now) replies) ≡ true
    pub stands : Stands number at_least (progress_from number at_least start (record_of (take i old) (take i now) replies)) keys
    pub kept : KeepsSteps (take i old) (take i now)
    pub rest : drop i now ≡ drop i old

  -- at first nothing was run
  pub HasRun-start : (steps : List (HeapStep T C)) (replies : List (HeapReply T)) (keys : List T) → replies ≡ [] → keys ≡ []
      → ((R : T → T → Bool) → IsInOrder R keys)
      → HasRun steps steps 0 replies keys
  HasRun-start steps replies keys no_replies no_keys ordered =
      record {
        replied = ap length no_replies;
        same_length = refl;
        answers = refl;
        counts = refl;
        stands = record {
          alike = rw no_keys (λ q. refl);
          keys_distinct = AreDistinct-nil number keys no_keys;
          held_distinct = AreDistinct-nil number [] refl;
          in_order = λ still. ordered;
        };
        kept = tt;
        rest = refl;
      }

  module _ (old now : List (HeapStep T C)) (i : ℕ) (replies : List (HeapReply T)) (keys : List T) (inside : i < length old)
      (run : HasRun old now i replies keys) (d : HeapStep T C) where
    -- the step that comes next is as it was handed in
    pub next_is_old : get_or now i d ≡ get_or old i d
    next_is_old = rw (get_or-drop i now 0 d, get_or-drop i old 0 d, add-zero) at (ap (λ xs. get_or xs 0 d) run.rest)

    -- and after it one more step was run
    pub HasRun-more : (cmp : Counted C) (r : HeapReply T) (keys' : List T)
        → ((p : Progress T C) → Stands number at_least p keys → may_answer number at_least p (get_or now i d).call (get_or now i d).cmp.comparer r ≡ true)
        → ((p : Progress T C) → Stands number at_least p keys
        → Stands number at_least (after_call number at_least p (get_or now i d).call (get_or now i d).cmp.comparer r) keys')
        → ((p : Progress T C) → Stands number at_least p keys → cmp.count ≤ (get_or now i d).cmp.count + comparison_bound number p.held (get_or now i d).call)
        → cmp.comparer ≡ (get_or now i d).cmp.comparer → (get_or now i d).cmp.count ≤ cmp.count
        → (IsFalse (may_compare (get_or now i d).call) → cmp.count ≡ (get_or now i d).cmp.count)
        → HasRun old (set now i record { call = (get_or now i d).call; cmp = cmp }) (i + 1) (replies ++ r ∷ []) keys'
    unfolding entry_of
    HasRun-more cmp r keys' may stands' within comparer rises uncompared =
        let s : HeapStep T C = get_or now i d in
        let t : HeapStep T C = record { call = s.call; cmp = cmp } in
        let now_inside : i < length now = omega (arith, run.same_length) in
        let old_more : take (i + 1) old ≡ take i old ++ s ∷ [] = rw next_is_old (take_more old i d inside) in
        let now_more : take (i + 1) (set now i t) ≡ take i now ++ t ∷ [] = take_more_set now i t now_inside in
        let recorded : record_of (take (i + 1) old) (take (i + 1) (set now i t)) (replies ++ r ∷ []) ≡ record_of (take i old) (take i now)
        replies ++ entry_of s t r ∷ [] =
        rw (old_more, now_more)
        (record_of-append (take i old) (take i now) replies s t r (omega (arith, length-take-le i old, run.replied))
        (omega (arith, length-take-le i now, run.replied)))
        in
        let so_far : List (Entry T C) = record_of (take i old) (take i now) replies in
        let before : Progress T C = progress_from number at_least start so_far in
        let few : cmp.count ≤ s.cmp.count + comparison_bound number before.held s.call = within before run.stands in
        let held : before.held ≡ held_from number [] so_far = progress_from-held number at_least start so_far in
        let flat = comparison_bound-most number before.held s.call
        (rw held (AreDistinct-from number at_least [] so_far (AreDistinct-nil number [] refl)))
        (rw held (AreBelow-from number at_least start so_far refl run.answers))
        in
        record {
          replied = rw length-append (omega (arith, run.replied));
          same_length = rw length-set run.same_length;
          answers = rw recorded (answers_from-append start so_far (entry_of s t r) run.answers (may before run.stands));
          counts = rw recorded (keeps_counts_from-append [] so_far (entry_of s t r) run.counts (rw (← held) (omega arith)));
          stands = rw (recorded, progress_from-append start so_far (entry_of s t r)) (stands' before run.stands);
          kept =
              rw (old_more, now_more)
              (AllZip-push KeepsStep (take i old) (take i now) s t run.kept record
              { call = refl; comparer = comparer; rises = rises; comparisons = omega arith; uncompared = uncompared });
          rest = drop-set-lt (i + 1) now i t (omega arith) ∙ drop_more_same now old i run.rest;
        }

  -- where every step was run, the record of the run answers
  pub HasRun-answers : (old now : List (HeapStep T C)) (i : ℕ) (replies : List (HeapReply T)) (keys : List T) → length old ≤ i → HasRun old now i replies keys
      → Answers number at_least (record_of old now replies)
  HasRun-answers old now i replies keys all run =
      rw (take_all i old all, take_all i now (omega (arith, run.same_length))) at run.answers

  pub HasRun-counts : (old now : List (HeapStep T C)) (i : ℕ) (replies : List (HeapReply T)) (keys : List T) → length old ≤ i → HasRun old now i replies keys
      → KeepsCounts number (record_of old now replies)
  HasRun-counts old now i replies keys all run =
      rw (take_all i old all, take_all i now (omega (arith, run.same_length))) at run.counts

  pub HasRun-kept : (old now : List (HeapStep T C)) (i : ℕ) (replies : List (HeapReply T)) (keys : List T) → length old ≤ i → HasRun old now i replies keys
      → KeepsSteps old now
  HasRun-kept old now i replies keys all run = rw (take_all i old all, take_all i now (omega (arith, run.same_length))) at run.kept

-- steps that nothing was done to are kept
pub KeepsSteps-refl : {T C : Type 0} (steps : List (HeapStep T C)) → KeepsSteps steps steps
KeepsSteps-refl [] = tt
KeepsSteps-refl (s ∷ steps) =
    (record { call = refl; comparer = refl; rises = omega arith; comparisons = omega arith; uncompared = λ _. refl }, KeepsSteps-refl steps)
