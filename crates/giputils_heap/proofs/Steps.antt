-- One call of a heap, and the record that it adds to.
--
-- How it is proved: records. State a lemma over the fields of a record `p`, with constructors as patterns, and apply it
-- to `p.held` and `p.last`; by η, `p` is the record of its fields.
use Rattle.std.proofs.Common.{◌≡◌, ℕ, ◌+◌, ◌*◌, ◌<◌, ◌≤◌, Bool, cond, true, false, ◌&&◌, ◌||◌, not, List, [], ◌∷◌, length, Option, Some, None, refl, ap, sym, ◌∙◌, subst, ⊎_elim, arith}
use Rattle.std.specs.Prelude.{IsTrue, IfSome, IfNone, IsSome, ◌↔◌}
use Rattle.std.specs.Bool.{beq}
use Rattle.std.specs.List.{list_all}
use Rattle.std.specs.List.Sorted.{IsPermutation}
use Rattle.std.proofs.lemmas.Bool.{and_parts, and_from, or_cases, cases_Bool, false≢true, lt-ltb}
use Rattle.std.proofs.lemmas.List.Sorted.{IsPermutation-sym}
use Rattle.std.proofs.lemmas.Map.Keys.{IsDistinct-tail}
use Rattle.giputils_bounded.specs.Prelude.{AgreeOn, AgreesExcept, AreDistinct, HoldAlike, HoldsWithin, IsGreatest, IsInOrder, IsLawful, KeepsOrder, RepairsChanged, RepairsFallen, RepairsRisen, agree_on, agrees_except, floor_log2, is_greatest, is_held, is_lawful, key_limit, same_key, without}
use Rattle.giputils_bounded.proofs.OrderLaws.{IsInOrder-empty, IsInOrder-agree}
use Rattle.giputils_heap.specs.Record.{Progress, start_if_empty, agrees_with_last, is_nil, is_steady_at, after_call, may_answer, comparison_bound}
use Rattle.giputils_heap.specs.declared.run.HeapCall.{HeapCall}
use Rattle.giputils_heap.specs.declared.run.HeapCall.TheVariants.{Push, Pop, Up, Down, Update, Rebuild, Clear}
use Rattle.giputils_heap.specs.declared.run.HeapReply.TheVariants.{Done, Popped}
use Rattle.giputils_heap.specs.Stands.{Stands, IsInOrderByLast, IsInOrderSince}
use Rattle.giputils_bounded.proofs.BoolsAndLists.{implied_from}
use Rattle.giputils_bounded.proofs.KeySets.{is_held-head, AreDistinct-nil, AreDistinct-IsPermutation}
use Rattle.giputils_bounded.proofs.Preorders.{agree_on-refl}
use Rattle.giputils_bounded.proofs.HoldAlike.{nil_from_alike, length-HoldAlike, HoldAlike-cons, HoldAlike-IsPermutation, HoldAlike-taken, AreDistinct-cons, AreDistinct-filter, HoldsWithin-alike, HoldsWithin-cons, HoldAlike-without, list_all-fewer, all_pairs-fewer, IsLawful-fewer, IsGreatest-HoldAlike}

-- where a key would be popped and none is, there is none
nil_from_no_some : {T : Type 0} (keys : List T) → (0 < length keys → IsSome {T = T} None) → keys ≡ []
nil_from_no_some [] some = refl
nil_from_no_some (k ∷ keys) some = absurd (false≢true (some (omega arith)))

-- a list is none where its test says so
pub is_nil-iff : {T : Type 0} (b : Bool) (keys : List T) → ((b ≡ true) ↔ (keys ≡ [])) → b ≡ is_nil keys
is_nil-iff true keys tests = sym (ap is_nil (tests.0 refl))
is_nil-iff false [] tests = tests.1 refl
is_nil-iff false (k ∷ keys) tests = refl

-- keys that hold like each other are none together
is_nil-HoldAlike : {T : Type 0} (number : T → ℕ) (xs ys : List T) → HoldAlike number xs ys → is_nil xs ≡ is_nil ys
is_nil-HoldAlike number [] [] alike = refl
is_nil-HoldAlike number [] (y ∷ ys) alike = absurd (false≢true (alike y ∙ is_held-head number y ys))
is_nil-HoldAlike number (x ∷ xs) [] alike = absurd (false≢true (sym (alike x) ∙ is_held-head number x xs))
is_nil-HoldAlike number (x ∷ xs) (y ∷ ys) alike = refl

module _ {T C : Type 0} (number : T → ℕ) (one_value : (x y : T) → number x ≡ number y → x ≡ y) (at_least : C → T → T → Bool) where
  ordered_once_empty : (held : List T) (steady : Bool) (last : Option C) (keys : List T) → HoldAlike number keys held
      → IsInOrderSince number at_least record { held = held; steady = steady; last = last } keys
      → IsInOrderSince number at_least (start_if_empty record { held = held; steady = steady; last = last }) keys
  ordered_once_empty [] steady last keys alike ordered = λ _ R. rw (nil_from_alike number keys alike) (IsInOrder-empty R)
  ordered_once_empty (k ∷ held) steady last keys alike ordered = ordered

  -- a heap stands where its keys do, and its order does unless nothing is held
  stands_from : (p : Progress T C) (keys : List T) → HoldAlike number keys p.held → AreDistinct number keys → AreDistinct number p.held
      → IsInOrderSince number at_least p keys → Stands number at_least p keys
  stands_from p keys alike keys_once held_once ordered =
      record {
        alike = alike;
        keys_distinct = keys_once;
        held_distinct = held_once;
        in_order = ordered_once_empty p.held p.steady p.last keys alike ordered;
      }

  -- comparers that agree on what is held agree on the keys
  AgreeOn-from_held : (b c : C) (keys held : List T) → HoldAlike number keys held → agree_on (at_least b) (at_least c) held ≡ true
      → AgreeOn (at_least b) (at_least c) keys
  AgreeOn-from_held b c keys held alike agrees =
      all_pairs-fewer number one_value (λ x y. beq (at_least b x y) (at_least c x y)) keys held (HoldsWithin-alike number keys held alike) agrees

  -- but for v too
  AgreesExcept-from_held : (v : T) (b c : C) (keys held : List T) → HoldAlike number keys held → agrees_except number v (at_least b) (at_least c) held ≡ true
      → AgreesExcept number v (at_least b) (at_least c) keys
  AgreesExcept-from_held v b c keys held alike agrees =
      AgreeOn-from_held b c (without number keys v) (without number held v) (HoldAlike-without number v keys held alike) agrees

  -- order under the last comparer is order under one that compares the held keys as that did
  ordered_by_last : (last : Option C) (call : HeapCall T) (c : C) (keys held : List T) → HoldAlike number keys held
      → ((b : C) → agrees_with_last number at_least (Some b) call c held ≡ agree_on (at_least b) (at_least c) held)
      → IsInOrderByLast at_least last keys → agrees_with_last number at_least last call c held ≡ true → IsInOrder (at_least c) keys
  ordered_by_last None call c keys held alike whole ordered agrees = ordered (at_least c)
  ordered_by_last (Some b) call c keys held alike whole ordered agrees =
      IsInOrder-agree (at_least b) (at_least c) keys ordered.0 (AgreeOn-from_held b c keys held alike (sym (whole b) ∙ agrees))

  -- an Update of v makes good what the last comparer's relation and this one do not agree on
  repaired_from_last : (last : Option C) (v : T) (c : C) (keys held new : List T) → HoldAlike number keys held → IsLawful (at_least c) keys
      → IsInOrderByLast at_least last keys → agrees_with_last number at_least last (Update v) c held ≡ true → RepairsChanged number v (at_least c) keys new keys
      → IsInOrder (at_least c) new
  repaired_from_last None v c keys held new alike lawful ordered agrees repaired =
      repaired (at_least c) (ordered (at_least c)) lawful (agree_on-refl (at_least c) (without number keys v)) lawful
  repaired_from_last (Some b) v c keys held new alike lawful ordered agrees repaired =
      repaired (at_least b) ordered.0 ordered.1 (AgreesExcept-from_held v b c keys held alike agrees) lawful

  -- an Up or a Down of v does where v has gone its way: `gone` tells whether it has, beside another key
  repaired_one_way : (gone : (T → T → Bool) → (T → T → Bool) → T → Bool) (last : Option C) (v : T) (c : C) (keys held new : List T)
      → HoldAlike number keys held → IsLawful (at_least c) keys → IsInOrderByLast at_least last keys
      → ((b : C) → last ≡ Some b → (agree_on (at_least b) (at_least c) held
      || (agrees_except number v (at_least b) (at_least c) held && list_all (gone (at_least b) (at_least c)) held)) ≡ true)
      → KeepsOrder (at_least c) keys new
      → ((R : T → T → Bool) → IsInOrder R keys → IsLawful R keys → AgreesExcept number v R (at_least c) keys
      → IsTrue (list_all (gone R (at_least c)) keys) → IsLawful (at_least c) keys → IsInOrder (at_least c) new)
      → IsInOrder (at_least c) new
  repaired_one_way gone None v c keys held new alike lawful ordered agrees keeps_order repaired = keeps_order (ordered (at_least c)) lawful
  repaired_one_way gone (Some b) v c keys held new alike lawful ordered agrees keeps_order repaired =
      let same : Bool = agree_on (at_least b) (at_least c) held in
      let except : Bool = agrees_except number v (at_least b) (at_least c) held in
      let went : Bool = list_all (gone (at_least b) (at_least c)) held in
      ⊎_elim
      (λ unchanged. keeps_order (IsInOrder-agree (at_least b) (at_least c) keys ordered.0 (AgreeOn-from_held b c keys held alike unchanged)) lawful)
      (λ changed.
      let parts = and_parts except went changed in
      repaired (at_least b) ordered.0 ordered.1 (AgreesExcept-from_held v b c keys held alike parts.0)
      (list_all-fewer number one_value (gone (at_least b) (at_least c)) keys held (HoldsWithin-alike number keys held alike) parts.1) lawful)
      (or_cases same (except && went) (agrees b refl))

module _ {T C : Type 0} {number : T → ℕ} (one_value : (x y : T) → number x ≡ number y → x ≡ y) {at_least : C → T → T → Bool}
    {p : Progress T C} {keys : List T} (stands : Stands number at_least p keys) (c : C) where
  -- a call that compares: the keys stand, and so does order wherever the comparisons stay steady
  stands_compared : (call : HeapCall T) (held new : List T) → HoldAlike number new held → AreDistinct number new → AreDistinct number held
      → (is_steady_at number at_least p call c ≡ true → IsInOrder (at_least c) new × IsLawful (at_least c) new)
      → Stands number at_least record { held = held; steady = is_steady_at number at_least p call c; last = Some c } new
  stands_compared call held new alike new_once held_once ordered =
      stands_from number one_value at_least record { held = held; steady = is_steady_at number at_least p call c; last = Some c } new alike
      new_once held_once ordered

  -- where the comparisons stay steady, the heap is in order under this comparer's relation, which is lawful on the keys concerned
  order_at : (call : HeapCall T) (concerned : List T) → HoldsWithin number keys concerned
      → ((b : C) → agrees_with_last number at_least (Some b) call c p.held ≡ agree_on (at_least b) (at_least c) p.held)
      → ((start_if_empty p).steady && (is_lawful (at_least c) concerned && agrees_with_last number at_least (start_if_empty p).last call c p.held)) ≡ true
      → IsInOrder (at_least c) keys × (IsLawful (at_least c) keys × IsLawful (at_least c) concerned)
  order_at call concerned within whole steady =
      let parts =
      and_parts (start_if_empty p).steady
      (is_lawful (at_least c) concerned && agrees_with_last number at_least (start_if_empty p).last call c p.held) steady
      in
      let laws = and_parts (is_lawful (at_least c) concerned) (agrees_with_last number at_least (start_if_empty p).last call c p.held) parts.1 in (
        ordered_by_last number one_value at_least (start_if_empty p).last call c keys p.held stands.alike whole (stands.in_order parts.0) laws.1,
        (IsLawful-fewer number one_value (at_least c) keys concerned within laws.0, laws.0),
      )

  held_within : HoldsWithin number keys p.held
  held_within = HoldsWithin-alike number keys p.held stands.alike

  order_at_push : (v : T) → is_steady_at number at_least p (Push v) c ≡ true
      → IsInOrder (at_least c) keys × (IsLawful (at_least c) keys × IsLawful (at_least c) (v ∷ p.held))
  order_at_push v steady = order_at (Push v) (v ∷ p.held) (HoldsWithin-cons number v keys p.held held_within) (λ b. refl) steady

  order_at_pop : is_steady_at number at_least p Pop c ≡ true → IsInOrder (at_least c) keys × (IsLawful (at_least c) keys × IsLawful (at_least c) p.held)
  order_at_pop steady = order_at Pop p.held held_within (λ b. refl) steady

  -- a push that changes no key
  pub stands_where_push_fails : (v : T)
      → Stands number at_least record { held = p.held; steady = is_steady_at number at_least p (Push v) c; last = Some c } keys
  stands_where_push_fails v =
      stands_compared (Push v) p.held keys stands.alike stands.keys_distinct stands.held_distinct
      (λ steady. let order = order_at_push v steady in (order.0, order.1.0))

  -- a push of a key that was held or joins
  pub stands_pushed : (v : T) (new : List T)
      → (is_held number keys v ≡ true → new ≡ keys)
      → (is_held number keys v ≡ false → IsPermutation (v ∷ keys) new)
      → (IsInOrder (at_least c) keys → IsLawful (at_least c) (v ∷ keys) → IsInOrder (at_least c) new)
      → Stands number at_least (after_call number at_least p (Push v) c Done) new
  stands_pushed v new stays joins keeps_order =
      let held : List T = p.held in
      let known : is_held number held v ≡ is_held number keys v = sym (stands.alike v) in
      let lawful : is_steady_at number at_least p (Push v) c ≡ true → IsLawful (at_least c) (v ∷ keys) =
      λ steady. IsLawful-fewer number one_value (at_least c) (v ∷ keys) (v ∷ held)
      (HoldsWithin-alike number (v ∷ keys) (v ∷ held) (HoldAlike-cons number v keys held stands.alike)) (order_at_push v steady).1.1
      in
      ⊎_elim
      (λ was_held.
      rw (known ∙ was_held, stays was_held)
      (stands_where_push_fails v))
      (λ was_absent.
      let moved = joins was_absent in
      let back : HoldAlike number new (v ∷ keys) = HoldAlike-IsPermutation number new (v ∷ keys) (IsPermutation-sym _ _ moved) in
      rw (known ∙ was_absent)
      (stands_compared (Push v) (v ∷ held) new
      (λ q. back q ∙ HoldAlike-cons number v keys held stands.alike q)
      (AreDistinct-IsPermutation number (v ∷ keys) new moved (AreDistinct-cons number v keys stands.keys_distinct was_absent))
      (AreDistinct-cons number v held stands.held_distinct (known ∙ was_absent))
      (λ steady. (
        keeps_order (order_at_push v steady).0 (lawful steady),
        IsLawful-fewer number one_value (at_least c) new (v ∷ keys) (HoldsWithin-alike number new (v ∷ keys) back) (lawful steady),
      ))))
      (cases_Bool (is_held number keys v))

  -- a pop of a key
  pub stands_popped : (k : T) (new : List T) → IsPermutation keys (k ∷ new)
      → (IsInOrder (at_least c) keys → IsLawful (at_least c) keys → IsInOrder (at_least c) new)
      → Stands number at_least (after_call number at_least p Pop c (Popped (Some k))) new
  stands_popped k new moved keeps_order =
      let back : HoldAlike number (k ∷ new) keys = HoldAlike-IsPermutation number (k ∷ new) keys (IsPermutation-sym _ _ moved) in
      stands_compared Pop (without number p.held k) new
      (HoldAlike-taken number k keys new p.held moved stands.keys_distinct stands.alike)
      (IsDistinct-tail (same_key number) k new (AreDistinct-IsPermutation number keys (k ∷ new) moved stands.keys_distinct))
      (AreDistinct-filter number (λ x. not (same_key number k x)) p.held stands.held_distinct)
      (λ steady.
      let order = order_at_pop steady in (
        keeps_order order.0 order.1.0,
        IsLawful-fewer number one_value (at_least c) new keys
            (λ q here. HoldsWithin-alike number (k ∷ new) keys back q (HoldsWithin-cons number k new new (λ _ h. h) q here)) order.1.0,
      ))

  -- a popped key was held, and was a greatest one where the comparisons stayed steady
  pub may_pop : (k : T) (new : List T) → IsPermutation keys (k ∷ new)
      → (IsInOrder (at_least c) keys → IsLawful (at_least c) keys → IsGreatest number (at_least c) keys k)
      → may_answer number at_least p Pop c (Popped (Some k)) ≡ true
  may_pop k new moved greatest =
      and_from (is_held number p.held k) (not (is_steady_at number at_least p Pop c) || is_greatest number (at_least c) p.held k)
      (sym (stands.alike k) ∙ HoldAlike-IsPermutation number keys (k ∷ new) moved k ∙ is_held-head number k new)
      (implied_from (is_steady_at number at_least p Pop c) (is_greatest number (at_least c) p.held k) (λ steady.
      let order = order_at_pop steady in
      IsGreatest-HoldAlike number one_value (at_least c) keys p.held k stands.alike (greatest order.0 order.1.0)))

  -- a pop, whatever it answers
  pub stands_after_pop : (r : Option T) (new : List T) → IfSome r (λ k. IsPermutation keys (k ∷ new)) → IfNone r (new ≡ keys)
      → (IsInOrder (at_least c) keys → IsLawful (at_least c) keys → IsInOrder (at_least c) new)
      → Stands number at_least (after_call number at_least p Pop c (Popped r)) new
  stands_after_pop None new taken stays keeps_order =
      rw stays
      (stands_compared Pop p.held keys stands.alike stands.keys_distinct stands.held_distinct
      (λ steady. let order = order_at_pop steady in (order.0, order.1.0)))
  stands_after_pop (Some k) new taken stays keeps_order = stands_popped k new taken keeps_order

  pub may_pop_so : (r : Option T) (new : List T) → (0 < length keys → IsSome r) → IfSome r (λ k. IsPermutation keys (k ∷ new))
      → IfSome r (λ k. IsInOrder (at_least c) keys → IsLawful (at_least c) keys → IsGreatest number (at_least c) keys k)
      → may_answer number at_least p Pop c (Popped r) ≡ true
  may_pop_so None new some taken greatest = sym (is_nil-HoldAlike number keys p.held stands.alike) ∙ ap is_nil (nil_from_no_some keys some)
  may_pop_so (Some k) new some taken greatest = may_pop k new taken greatest

  -- a call that moves the keys alone
  stands_moved : (call : HeapCall T) (new : List T) → IsPermutation keys new
      → (is_steady_at number at_least p call c ≡ true → IsInOrder (at_least c) new × IsLawful (at_least c) keys)
      → Stands number at_least record { held = p.held; steady = is_steady_at number at_least p call c; last = Some c } new
  stands_moved call new moved ordered =
      let back : HoldAlike number new keys = HoldAlike-IsPermutation number new keys (IsPermutation-sym _ _ moved) in
      stands_compared call p.held new (λ q. back q ∙ stands.alike q)
      (AreDistinct-IsPermutation number keys new moved stands.keys_distinct) stands.held_distinct
      (λ steady. ((ordered steady).0, IsLawful-fewer number one_value (at_least c) new keys (HoldsWithin-alike number new keys back) (ordered steady).1))

  -- what a call on a key that stays steady says of what was before it
  said_at_key : (call : HeapCall T) (v : T)
      → ((start_if_empty p).steady && (is_lawful (at_least c) (v ∷ p.held) && agrees_with_last number at_least (start_if_empty p).last call c p.held)) ≡ true
      → IsLawful (at_least c) keys × IsInOrderByLast at_least (start_if_empty p).last keys
      × (agrees_with_last number at_least (start_if_empty p).last call c p.held ≡ true)
  said_at_key call v steady =
      let agrees : Bool = agrees_with_last number at_least (start_if_empty p).last call c p.held in
      let parts = and_parts (start_if_empty p).steady (is_lawful (at_least c) (v ∷ p.held) && agrees) steady in
      let laws = and_parts (is_lawful (at_least c) (v ∷ p.held)) agrees parts.1 in (
        IsLawful-fewer number one_value (at_least c) keys (v ∷ p.held) (HoldsWithin-cons number v keys p.held held_within) laws.0,
        stands.in_order parts.0,
        laws.1,
      )

  pub stands_at_up : (v : T) (new : List T) → IsPermutation keys new → KeepsOrder (at_least c) keys new → RepairsRisen number v (at_least c) keys new
      → Stands number at_least (after_call number at_least p (Up v) c Done) new
  stands_at_up v new moved keeps_order repaired =
      stands_moved (Up v) new moved (λ steady.
      let said = said_at_key (Up v) v steady in (
        repaired_one_way number one_value at_least (λ R Q x. not (R v x) || Q v x) (start_if_empty p).last v c keys p.held new stands.alike said.0 said.1
            (λ b is. subst (λ o. agrees_with_last number at_least o (Up v) c p.held ≡ true) is said.2) keeps_order repaired,
        said.0,
      ))

  pub stands_at_down : (v : T) (new : List T) → IsPermutation keys new → KeepsOrder (at_least c) keys new → RepairsFallen number v (at_least c) keys new
      → Stands number at_least (after_call number at_least p (Down v) c Done) new
  stands_at_down v new moved keeps_order repaired =
      stands_moved (Down v) new moved (λ steady.
      let said = said_at_key (Down v) v steady in (
        repaired_one_way number one_value at_least (λ R Q x. not (R x v) || Q x v) (start_if_empty p).last v c keys p.held new stands.alike said.0 said.1
            (λ b is. subst (λ o. agrees_with_last number at_least o (Down v) c p.held ≡ true) is said.2) keeps_order repaired,
        said.0,
      ))

  pub stands_updated : (v : T) (new : List T) → IsPermutation keys new → RepairsChanged number v (at_least c) keys new keys
      → Stands number at_least (after_call number at_least p (Update v) c Done) new
  stands_updated v new moved repaired =
      stands_moved (Update v) new moved (λ steady.
      let said = said_at_key (Update v) v steady in
      (repaired_from_last number one_value at_least (start_if_empty p).last v c keys p.held new stands.alike said.0 said.1 said.2 repaired, said.0))

  -- a Rebuild needs no order to begin with
  pub stands_rebuilt : (new : List T) → IsPermutation keys new → (IsLawful (at_least c) keys → IsInOrder (at_least c) new)
      → Stands number at_least (after_call number at_least p Rebuild c Done) new
  stands_rebuilt new moved ordered =
      stands_moved Rebuild new moved (λ steady.
      let laws = and_parts (is_lawful (at_least c) p.held) true steady in
      let lawful : IsLawful (at_least c) keys = IsLawful-fewer number one_value (at_least c) keys p.held held_within laws.0 in
      (ordered lawful, lawful))

  -- the number of keys is that of the held ones
  pub length_of_held : length keys ≡ length p.held
  length_of_held = length-HoldAlike number keys p.held stands.alike stands.keys_distinct stands.held_distinct

  -- whether there is no key is whether nothing is held
  pub is_nil_of_held : is_nil keys ≡ is_nil p.held
  is_nil_of_held = is_nil-HoldAlike number keys p.held stands.alike

  -- a call that neither compares nor changes a key
  pub stands_unchanged : Stands number at_least record { held = p.held; steady = (start_if_empty p).steady; last = (start_if_empty p).last } keys
  stands_unchanged =
      let q : Progress T C = start_if_empty p in
      stands_from number one_value at_least record { held = p.held; steady = q.steady; last = q.last } keys
      stands.alike stands.keys_distinct stands.held_distinct stands.in_order

  -- after a clear nothing is held
  pub stands_cleared : (new : List T) → new ≡ [] → ((R : T → T → Bool) → IsInOrder R new)
      → Stands number at_least (after_call number at_least p Clear c Done) new
  stands_cleared new none ordered =
      record {
        alike = rw none (λ q. refl);
        keys_distinct = AreDistinct-nil number new none;
        held_distinct = AreDistinct-nil number [] refl;
        in_order = λ _. ordered;
      }

  -- the comparisons of a push
  pub push_within : (v : T) (old new : ℕ) → number v < key_limit → (is_held number keys v ≡ true → new ≡ old)
      → new ≤ old + floor_log2 (length keys + 1) → new ≤ old + comparison_bound number p.held (Push v)
  push_within v old new in_range uncompared within =
      let known : is_held number p.held v ≡ is_held number keys v = sym (stands.alike v) in
      ⊎_elim
      (λ here. let same : new ≡ old = uncompared here in omega arith)
      (λ absent.
      let none : is_held number keys v ≡ false = absent in
      rw (lt-ltb (number v) key_limit in_range, known ∙ none, ← length_of_held) within)
      (cases_Bool (is_held number keys v))

  pub pop_within : (old new : ℕ) → new ≤ old + 2 * floor_log2 (length keys) → new ≤ old + comparison_bound number p.held Pop
  pop_within old new within = rw (← length_of_held) within

  pub rebuild_within : (old new : ℕ) → new ≤ old + 2 * length keys → new ≤ old + comparison_bound number p.held Rebuild
  rebuild_within old new within = rw (← length_of_held) within

  -- the comparisons of a call on one key
  pub key_within : (v : T) (old new : ℕ) (bound : ℕ → ℕ) → (is_held number keys v ≡ false → new ≡ old)
      → new ≤ old + bound (length keys) → new ≤ old + (cond (is_held number p.held v) (bound (length p.held)) 0)
  key_within v old new bound uncompared within =
      let known : is_held number p.held v ≡ is_held number keys v = sym (stands.alike v) in
      ⊎_elim
      (λ here. let this : is_held number keys v ≡ true = here in rw (known ∙ this, ← length_of_held) within)
      (λ absent. let same : new ≡ old = uncompared absent in omega arith)
      (cases_Bool (is_held number keys v))
