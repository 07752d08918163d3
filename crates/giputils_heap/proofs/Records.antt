-- Records that answer: step by step, while they pop until nothing is held, and under one order.
--
-- How it is proved: equal comparators. Carry a fact from one to the other by `subst (λ k. .. (at_least k) ..) same
-- fact`. `fun_ext` turns relations that agree pointwise into equal ones.
use Rattle.std.proofs.Common.{◌≡◌, ℕ, zero, suc, ◌+◌, Bool, true, false, ◌&&◌, ◌||◌, not, List, [], ◌∷◌, ◌++◌, length, take, Option, Some, None, refl, ap, sym, ◌∙◌, subst, ⊎_elim, arith, cond, ltb}
use Rattle.std.specs.Prelude.{slice_get, filter, if◌then◌else◌}
use Rattle.std.specs.List.{All, list_all}
use Rattle.std.proofs.Math.Path.{fun_ext}
use Rattle.std.proofs.Math.Seq.{take-append_seam, take-append-add}
use Rattle.std.proofs.lemmas.Bool.{and_parts, and_from, cases_Bool, false≢true, eq-eqb}
use Rattle.std.proofs.lemmas.Map.Steps.{list_any_congr}
use Rattle.std.proofs.Math.Bool.{and-false}
use Rattle.std.proofs.lemmas.List.Elements.{All-head, All-tail}
use Rattle.giputils_bounded.specs.Prelude.{AreBelow, AreDistinct, HoldAlike, IsLawful, IsTotalPreorder, agree_on, is_descending, is_greatest, is_held, is_lawful, key_limit, same_key, without}
use Rattle.giputils_heap.specs.Record.{Entry, Progress, start, start_if_empty, start_anew, is_nil, agrees_with_last, compared_keys, may_compare, held_after, after_call, may_answer, may_reply, progress_from, answers_from, held_from, held_before, Answers, is_steady_at, IsSteady}
use Rattle.giputils_heap.specs.Laws.{Compares, PopUntilNone, ListsDownward}
use Rattle.giputils_heap.specs.declared.run.HeapCall.{HeapCall}
use Rattle.giputils_heap.specs.declared.run.HeapCall.TheVariants.{Push, Pop, Rebuild, Clear}
use Rattle.giputils_heap.specs.declared.run.HeapReply.{HeapReply}
use Rattle.giputils_heap.specs.declared.run.HeapReply.TheVariants.{Done, Popped}
use Rattle.giputils_bounded.proofs.BoolsAndLists.{or-and_not}
use Rattle.giputils_bounded.proofs.KeySets.{is_held-head, same_key-equiv, AreDistinct-nil, pass_at_held}
use Rattle.giputils_bounded.proofs.HoldAlike.{AreDistinct-cons, AreDistinct-filter, HoldsWithin-without, is_held-without, IsLawful-fewer}
use Rattle.giputils_bounded.proofs.Preorders.{agree_on-refl, IsLawful-everywhere}
use Rattle.giputils_heap.proofs.Steady.{agrees_with_last-same}

module _ {T C : Type 0} (at_least : C → T → T → Bool) where
  relation_is : (R : T → T → Bool) (c : C) → Compares at_least R c → at_least c ≡ R
  relation_is R c same = fun_ext (λ x. fun_ext (λ y. same x y))

module _ {T C : Type 0} (number : T → ℕ) (at_least : C → T → T → Bool) where
  -- the keys that a record's progress comes to
  pub progress_from-held : (p : Progress T C) (es : List (Entry T C)) → (progress_from number at_least p es).held ≡ held_from number p.held es
  progress_from-held p [] = refl
  progress_from-held p (e ∷ es) = progress_from-held (after_call number at_least p e.call e.comparer e.reply) es

  pub progress_from-append : (p : Progress T C) (xs ys : List (Entry T C))
      → progress_from number at_least p (xs ++ ys) ≡ progress_from number at_least (progress_from number at_least p xs) ys
  progress_from-append p [] ys = refl
  progress_from-append p (x ∷ xs) ys = progress_from-append (after_call number at_least p x.call x.comparer x.reply) xs ys

  -- what comes last in a record that answers, answers after what comes first
  answers_last : (p : Progress T C) (xs ys : List (Entry T C)) → answers_from number at_least p (xs ++ ys) ≡ true
      → answers_from number at_least (progress_from number at_least p xs) ys ≡ true
  answers_last p [] ys answers = answers
  answers_last p (x ∷ xs) ys answers =
      let next : Progress T C = after_call number at_least p x.call x.comparer x.reply in
      answers_last next xs ys (and_parts (may_answer number at_least p x.call x.comparer x.reply) (answers_from number at_least next (xs ++ ys)) answers).1

  -- a step of a record that answers may reply as it did after the steps before it
  pub answers_at_step : (p : Progress T C) (entries : List (Entry T C)) → answers_from number at_least p entries ≡ true
      → (i : ℕ) (e : Entry T C) → slice_get entries i ≡ Some e
      → may_reply number (at_least e.comparer) (progress_from number at_least p (take (i + 1) entries)).steady
      (held_from number p.held (take i entries)) e.call e.reply ≡ true
  answers_at_step p [] answers i e found = cc
  answers_at_step p (x ∷ entries) answers zero e found =
      let same : x ≡ e = cc in
      let rest : Bool = answers_from number at_least (after_call number at_least p x.call x.comparer x.reply) entries in
      rw (← same) (and_parts (may_answer number at_least p x.call x.comparer x.reply) rest answers).0
  answers_at_step p (x ∷ entries) answers (suc i) e found =
      let next : Progress T C = after_call number at_least p x.call x.comparer x.reply in
      let later : suc i + 1 ≡ suc (i + 1) = omega arith in
      rw later
      (answers_at_step next entries
      (and_parts (may_answer number at_least p x.call x.comparer x.reply) (answers_from number at_least next entries) answers).1 i e found)

  -- each held key is listed once after a call as before it
  AreDistinct-after : (held : List T) (call : HeapCall T) (reply : HeapReply T) → AreDistinct number held
      → AreDistinct number (held_after number held call reply)
  AreDistinct-after held (Push v) Done once =
      ⊎_elim (λ here. rw here once) (λ absent. rw absent (AreDistinct-cons number v held once absent)) (cases_Bool (is_held number held v))
  AreDistinct-after held Pop (Popped (Some k)) once = AreDistinct-filter number (λ x. not (same_key number k x)) held once
  AreDistinct-after held Clear Done once = AreDistinct-nil number [] refl
  AreDistinct-after held _ _ once = once

  pub AreDistinct-from : (held : List T) (es : List (Entry T C)) → AreDistinct number held → AreDistinct number (held_from number held es)
  AreDistinct-from held [] once = once
  AreDistinct-from held (e ∷ es) once = AreDistinct-from (held_after number held e.call e.reply) es (AreDistinct-after held e.call e.reply once)

  list_all-filter : (q p : T → Bool) (keys : List T) → list_all q keys ≡ true → list_all q (filter p keys) ≡ true
  list_all-filter q p [] all = refl
  list_all-filter q p (k ∷ keys) all =
      let parts = and_parts (q k) (list_all q keys) all in
      let rest = list_all-filter q p keys parts.1 in
      elim (p k) as
      (λ b. list_all q (cond b (k ∷ filter p keys) (filter p keys)) ≡ true)
      [ true ↦ and_from (q k) (list_all q (filter p keys)) parts.0 rest | false ↦ rest ]

  -- and has a number below the limit
  AreBelow-after : (p : Progress T C) (call : HeapCall T) (c : C) (reply : HeapReply T) → may_answer number at_least p call c reply ≡ true
      → AreBelow number key_limit p.held → AreBelow number key_limit (held_after number p.held call reply)
  AreBelow-after p (Push v) c Done may below =
      let Passes : List T → Type 0 = λ held. AreBelow number key_limit held in
      elim (is_held number p.held v) as (λ b. Passes (cond b p.held (v ∷ p.held))) [
        | true ↦ below
        | false ↦ and_from (ltb (number v) key_limit) (list_all (λ k. ltb (number k) key_limit) p.held) may below
      ]
  AreBelow-after p Pop c (Popped (Some k)) may below = list_all-filter (λ x. ltb (number x) key_limit) (λ x. not (same_key number k x)) p.held below
  AreBelow-after p Clear c Done may below = refl
  AreBelow-after p _ c _ may below = below

  pub AreBelow-from : (p : Progress T C) (es : List (Entry T C)) → AreBelow number key_limit p.held → answers_from number at_least p es ≡ true
      → AreBelow number key_limit (held_from number p.held es)
  AreBelow-from p [] below answers = below
  AreBelow-from p (e ∷ es) below answers =
      let next : Progress T C = after_call number at_least p e.call e.comparer e.reply in
      let parts = and_parts (may_answer number at_least p e.call e.comparer e.reply) (answers_from number at_least next es) answers in
      AreBelow-from next es (AreBelow-after p e.call e.comparer e.reply parts.0 below) parts.1

-- what has no element is nothing
nil_from : {X : Type 0} (xs : List X) → is_nil xs ≡ true → xs ≡ []
nil_from [] none = refl
nil_from (x ∷ xs) none = absurd (false≢true none)

-- popping until nothing is held takes at least one pop
no_pops : {T C : Type 0} (at_least : C → T → T → Bool) (R : T → T → Bool) (keys : List T) → PopUntilNone at_least R keys [] → ⊥
no_pops at_least R [] popping = popping
no_pops at_least R (k ∷ keys) popping = popping

module _ {T C : Type 0} (number : T → ℕ) (one_value : (x y : T) → number x ≡ number y → x ≡ y) (at_least : C → T → T → Bool) (R : T → T → Bool) where
  -- a pop by this relation agrees with the comparer that was last lent, where a pop by another comparer of this relation does
  agrees_by_relation : (last : Option C) (c d : C) (held : List T) → at_least c ≡ R → at_least d ≡ R
      → agrees_with_last number at_least last Pop c held ≡ true → agrees_with_last number at_least last Pop d held ≡ true
  agrees_by_relation None c d held is is' agrees = refl
  agrees_by_relation (Some b) c d held is is' agrees = rw is' (rw is at agrees)

  -- so it is steady where that is
  steady_by_relation : (p : Progress T C) (c d : C) → at_least c ≡ R → at_least d ≡ R
      → is_steady_at number at_least p Pop c ≡ true → is_steady_at number at_least p Pop d ≡ true
  steady_by_relation p c d is is' steady =
      let q : Progress T C = start_if_empty p in
      let parts = and_parts q.steady (is_lawful (at_least c) p.held && agrees_with_last number at_least q.last Pop c p.held) steady in
      let laws = and_parts (is_lawful (at_least c) p.held) (agrees_with_last number at_least q.last Pop c p.held) parts.1 in
      let lawful : is_lawful (at_least d) p.held ≡ true = rw is' (rw is at laws.0) in
      and_from q.steady (is_lawful (at_least d) p.held && agrees_with_last number at_least q.last Pop d p.held) parts.0
      (and_from (is_lawful (at_least d) p.held) (agrees_with_last number at_least q.last Pop d p.held) lawful
      (agrees_by_relation q.last c d p.held is is' laws.1))

  -- after a steady pop by this relation another one by it is steady
  steady_again_with : (held : List T) (steady : Bool) (c d : C) → at_least c ≡ R → at_least d ≡ R → steady ≡ true → IsLawful R held
      → is_steady_at number at_least record { held = held; steady = steady; last = Some c } Pop d ≡ true
  steady_again_with [] steady c d is is' was lawful = refl
  steady_again_with (k ∷ held) steady c d is is' was lawful =
      let keys : List T = k ∷ held in
      let Passes : (T → T → Bool) → Type 0 = λ Q. (steady && (is_lawful Q keys && agree_on (at_least c) Q keys)) ≡ true in
      subst Passes (sym is')
      (and_from steady (is_lawful R keys && agree_on (at_least c) R keys) was
      (and_from (is_lawful R keys) (agree_on (at_least c) R keys) lawful (ap (λ Q. agree_on Q R keys) is ∙ agree_on-refl R keys)))

  steady_again : (p : Progress T C) (c d : C) (k : T) → at_least c ≡ R → at_least d ≡ R → is_steady_at number at_least p Pop c ≡ true
      → is_steady_at number at_least (after_call number at_least p Pop c (Popped (Some k))) Pop d ≡ true
  steady_again p c d k is is' steady =
      let q : Progress T C = start_if_empty p in
      let parts = and_parts q.steady (is_lawful (at_least c) p.held && agrees_with_last number at_least q.last Pop c p.held) steady in
      let lawful : IsLawful R p.held = rw is at (and_parts (is_lawful (at_least c) p.held) (agrees_with_last number at_least q.last Pop c p.held) parts.1).0 in
      steady_again_with (without number p.held k) (is_steady_at number at_least p Pop c) c d is is' steady
      (IsLawful-fewer number one_value R (without number p.held k) p.held (HoldsWithin-without number k p.held) lawful)

  -- the first of the keys that are listed downward is at least each of them
  before_the_next : (k : T) (held keys : List T) → list_all (R k) held ≡ true → HoldAlike number keys (without number held k) → is_descending R keys ≡ true
      → is_descending R (k ∷ keys) ≡ true
  before_the_next k held [] all alike descending = refl
  before_the_next k held (x ∷ keys) all alike descending =
      let x_held : is_held number held x ≡ true = HoldsWithin-without number k held x (sym (alike x) ∙ is_held-head number x keys) in
      and_from (R k x) (is_descending R (x ∷ keys)) (pass_at_held number one_value (R k) held x all x_held) descending

  -- a key and those but for it hold what it is one of
  HoldAlike-popped : (k : T) (held keys : List T) → is_held number held k ≡ true → HoldAlike number keys (without number held k)
      → HoldAlike number (k ∷ keys) held
  HoldAlike-popped k held keys here alike q =
      let kept : is_held number keys q ≡ (is_held number held q && not (same_key number k q)) = alike q ∙ is_held-without number k held q in
      rw (kept, (same_key-equiv number).symm k q)
      (or-and_not (same_key number q k) (is_held number held q) (λ same. list_any_congr (same_key-equiv number) q k held same ∙ here))

  not_itself : (k : T) (held : List T) → (is_held number held k && not (same_key number k k)) ≡ false
  not_itself k held = rw (eq-eqb (number k) (number k) refl) (and-false (is_held number held k))

  -- popping until nothing is held, from a steady first pop on
  pops_down : (p : Progress T C) (keys : List T) (pops : List (Entry T C)) → AreDistinct number p.held → answers_from number at_least p pops ≡ true
      → PopUntilNone at_least R keys pops → ((d : C) → at_least d ≡ R → is_steady_at number at_least p Pop d ≡ true)
      → ListsDownward number R p.held keys
  pops_down p keys [] once answers popping steady = absurd (no_pops at_least R keys popping)
  pops_down p [] (e ∷ pops) once answers popping steady =
      let none : is_nil p.held ≡ true =
      rw (popping.0.call, popping.0.reply) at
      (and_parts (may_answer number at_least p e.call e.comparer e.reply)
      (answers_from number at_least (after_call number at_least p e.call e.comparer e.reply) pops) answers).0
      in
      record { alike = rw (nil_from p.held none) (λ q. refl); each_once = AreDistinct-nil number [] refl; descending = refl }
  pops_down p (k ∷ keys) (e ∷ pops) once answers popping steady =
      let is : at_least e.comparer ≡ R = relation_is at_least R e.comparer popping.0.comparer in
      let parts =
      and_parts (may_answer number at_least p e.call e.comparer e.reply)
      (answers_from number at_least (after_call number at_least p e.call e.comparer e.reply) pops) answers
      in
      let may : may_answer number at_least p Pop e.comparer (Popped (Some k)) ≡ true = rw (popping.0.call, popping.0.reply) at parts.0 in
      let rest : answers_from number at_least (after_call number at_least p Pop e.comparer (Popped (Some k))) pops ≡ true =
      rw (popping.0.call, popping.0.reply) at parts.1
      in
      let now : is_steady_at number at_least p Pop e.comparer ≡ true = steady e.comparer is in
      let owed =
      and_parts (is_held number p.held k)
      (not (is_steady_at number at_least p Pop e.comparer) || is_greatest number (at_least e.comparer) p.held k) may
      in
      let greatest : is_greatest number R p.held k ≡ true = rw is at (rw now at owed.1) in
      let later = pops_down (after_call number at_least p Pop e.comparer (Popped (Some k))) keys pops
      (AreDistinct-filter number (λ x. not (same_key number k x)) p.held once) rest popping.1 (λ d is'. steady_again p e.comparer d k is is' now)
      in
      record {
        alike = HoldAlike-popped k p.held keys owed.0 later.alike;
        each_once = AreDistinct-cons number k keys later.each_once (later.alike k ∙ is_held-without number k p.held k ∙ not_itself k p.held);
        descending = before_the_next k p.held keys (and_parts (is_held number p.held k) (list_all (R k) p.held) greatest).1 later.alike later.descending;
      }

  first_is_steady : (p : Progress T C) (keys : List T) (pops : List (Entry T C)) → PopUntilNone at_least R keys pops
      → (progress_from number at_least p (take 1 pops)).steady ≡ true → (d : C) → at_least d ≡ R → is_steady_at number at_least p Pop d ≡ true
  first_is_steady p keys [] popping steady d is = absurd (no_pops at_least R keys popping)
  first_is_steady p [] (e ∷ pops) popping steady d is =
      steady_by_relation p e.comparer d (relation_is at_least R e.comparer popping.0.comparer) is (rw popping.0.call at steady)
  first_is_steady p (k ∷ keys) (e ∷ pops) popping steady d is =
      steady_by_relation p e.comparer d (relation_is at_least R e.comparer popping.0.comparer) is (rw popping.0.call at steady)

  -- the law of pops in a record
  pub pops_list_downward : (before pops : List (Entry T C)) (keys : List T) → Answers number at_least (before ++ pops)
      → PopUntilNone at_least R keys pops → IsSteady number at_least (before ++ pops) (length before)
      → ListsDownward number R (held_before number (before ++ pops) (length before)) keys
  pops_list_downward before pops keys answers popping steady =
      let p : Progress T C = progress_from number at_least start before in
      let held : held_before number (before ++ pops) (length before) ≡ p.held =
      ap (held_from number []) (take-append_seam before pops) ∙ sym (progress_from-held number at_least start before)
      in
      rw held
      (pops_down p keys pops (rw (progress_from-held number at_least start before) (AreDistinct-from number at_least [] before (AreDistinct-nil number [] refl)))
      (answers_last number at_least start before pops answers) popping
      (first_is_steady p keys pops popping
      (sym (ap (λ es. (progress_from number at_least start es).steady) (take-append-add before pops 1)
      ∙ ap (λ (q : Progress T C). q.steady) (progress_from-append number at_least start before (take 1 pops))) ∙ steady)))

module _ {T C : Type 0} (number : T → ℕ) (at_least : C → T → T → Bool) (R : T → T → Bool) (order : IsTotalPreorder R) where
  -- the comparer that was last lent since nothing was held has the relation too
  last_once_empty : (held : List T) (steady : Bool) (last : Option C) → ((b : C) → last ≡ Some b → at_least b ≡ R)
      → (b : C) → (start_if_empty record { held = held; steady = steady; last = last }).last ≡ Some b → at_least b ≡ R
  last_once_empty [] steady last was b is = cc
  last_once_empty (k ∷ held) steady last was b is = was b is

  steady_once_empty : (held : List T) (steady : Bool) (last : Option C) → steady ≡ true
      → (start_if_empty record { held = held; steady = steady; last = last }).steady ≡ true
  steady_once_empty [] steady last was = refl
  steady_once_empty (k ∷ held) steady last was = was

  -- so has the one that a call goes on from
  last_anew : (p : Progress T C) (call : HeapCall T) → ((b : C) → p.last ≡ Some b → at_least b ≡ R)
      → (b : C) → (start_anew p call).last ≡ Some b → at_least b ≡ R
  last_anew p Rebuild was b is = cc
  last_anew p call was b is = last_once_empty p.held p.steady p.last was b is

  steady_anew : (p : Progress T C) (call : HeapCall T) → p.steady ≡ true → (start_anew p call).steady ≡ true
  steady_anew p Rebuild was = refl
  steady_anew p call was = steady_once_empty p.held p.steady p.last was

  -- one more call is steady under the one order, and so is the comparer that it was lent
  steady_after : (p : Progress T C) (call : HeapCall T) (c : C) (reply : HeapReply T) → at_least c ≡ R → p.steady ≡ true
      → ((b : C) → p.last ≡ Some b → at_least b ≡ R)
      → ((after_call number at_least p call c reply).steady ≡ true) × ((b : C) → (after_call number at_least p call c reply).last ≡ Some b → at_least b ≡ R)
  steady_after p call c reply is steady was =
      let q : Progress T C = start_anew p call in
      let q_steady : q.steady ≡ true = steady_anew p call steady in
      let q_last : (b : C) → q.last ≡ Some b → at_least b ≡ R = last_anew p call was in
      let lawful : is_lawful (at_least c) (compared_keys p.held call) ≡ true =
      ap (λ Q. is_lawful Q (compared_keys p.held call)) is ∙ IsLawful-everywhere R order (compared_keys p.held call)
      in
      let compared : (q.steady && (is_lawful (at_least c) (compared_keys p.held call) && agrees_with_last number at_least q.last call c p.held)) ≡ true =
      and_from q.steady (is_lawful (at_least c) (compared_keys p.held call) && agrees_with_last number at_least q.last call c p.held) q_steady
      (and_from (is_lawful (at_least c) (compared_keys p.held call)) (agrees_with_last number at_least q.last call c p.held) lawful
      (agrees_with_last-same number at_least q.last call c p.held (λ b was. q_last b was ∙ sym is)))
      in
      elim (may_compare call) as (λ b. ((if b
      then (q.steady && (is_lawful (at_least c) (compared_keys p.held call) && agrees_with_last number at_least q.last call c p.held))
      else q.steady) ≡ true)
      × ((d : C) → (if b then Some c else q.last) ≡ Some d → at_least d ≡ R)) [
        | true ↦ (compared, λ d same. let this : c ≡ d = cc in ap at_least (sym this) ∙ is)
        | false ↦ (q_steady, q_last)
      ]

  pub steady_under_one_order : (p : Progress T C) (es : List (Entry T C)) → All (λ e. Compares at_least R e.comparer) es
      → p.steady ≡ true → ((b : C) → p.last ≡ Some b → at_least b ≡ R) → (progress_from number at_least p es).steady ≡ true
  steady_under_one_order p [] all steady was = steady
  steady_under_one_order p (e ∷ es) all steady was =
      let is : at_least e.comparer ≡ R = relation_is at_least R e.comparer (All-head (λ x. Compares at_least R x.comparer) e es all) in
      let next = steady_after p e.call e.comparer e.reply is steady was in
      steady_under_one_order (after_call number at_least p e.call e.comparer e.reply) es (All-tail (λ x. Compares at_least R x.comparer) e es all)
      next.0 next.1
