-- A set that is emptied from its least member on, as a list of truth values.
--
-- How it is proved: a walk by `next_one`. The invariant is `places ++ true_places start (drop start old) ≡ true_places
-- 0 old`, and no place from `start` on has changed. The lemmas of giputils_bits `Walks` are its step and its end.
use Rattle.std.proofs.Common.{◌≡◌, ℕ, ◌+◌, ◌<◌, ◌≤◌, Bool, false, List, [], ◌∷◌, ◌++◌, length, length-append, append_assoc, get_or, set, length-set, drop, arith, refl, sym, ap, ◌∙◌, inl, inr}
use Rattle.std.proofs.lemmas.Bool.{cases_eq, cases_lt}
use Rattle.std.proofs.lemmas.List.{append-nil, get_or-set_same, get_or-set_other}
use Rattle.giputils.specs.Ones.{true_count, true_places, HasNoneFrom, IsNextOne}
use Rattle.giputils.proofs.Ones.{true_within}
use Rattle.giputils.proofs.TruePlaces.{length-true_places}
use Rattle.giputils.proofs.Walks.{true_places-next, true_places-none}
use Rattle.giputils_uses.specs.SmallSet.{HasNone}

-- the places that were true are those taken, all below `start`, and those from there on, which are as they were
pub record TakenBelow (start : ℕ) (old now : List Bool) (places : List ℕ) : Type 0 where
  pub split : places ++ true_places start (drop start old) ≡ true_places 0 old
  pub none : (k : ℕ) → k < start → get_or now k false ≡ false
  pub rest : (k : ℕ) → start ≤ k → get_or now k false ≡ get_or old k false
  pub len : length now ≡ length old

pub TakenBelow-none : (bs : List Bool) → TakenBelow 0 bs bs []
TakenBelow-none bs = record { split = refl; none = λ k below. absurd (omega (arith, below)); rest = λ k past. refl; len = refl }

module _ (start : ℕ) (old now : List Bool) (places : List ℕ) (t : TakenBelow start old now places) where
  -- the next place was true
  next_was : (place : ℕ) → IsNextOne now start place → IsNextOne old start place
  next_was place next = record {
    past = next.past;
    holds = sym (t.rest place next.past) ∙ next.holds;
    least = λ k past below. sym (t.rest k past) ∙ next.least k past below;
  }

  pub TakenBelow-next : (place : ℕ) → IsNextOne now start place → TakenBelow (place + 1) old (set now place false) (places ++ place ∷ [])
  TakenBelow-next place next = record {
    split =
        append_assoc places (place ∷ []) (true_places (place + 1) (drop (place + 1) old))
        ∙ ap (λ rest. places ++ rest) (sym (true_places-next old start place (next_was place next))) ∙ t.split;
    none = λ k below. elim (cases_eq k place) [
      | inl is ↦ rw is (get_or-set_same now place false false (true_within now place next.holds))
      | inr other ↦ get_or-set_other now place k false false other ∙ elim (cases_lt k start) [
        | inl before ↦ t.none k before
        | inr past ↦ next.least k past (omega (arith, below, other))
      ]
    ];
    rest = λ k past. get_or-set_other now place k false false (λ is. omega (arith, past, is)) ∙ t.rest k (omega (arith, past, next.past));
    len = length-set now place false ∙ t.len;
  }

  -- there are fewer taken than were true, as long as there is a next
  pub TakenBelow-fewer : (place : ℕ) → IsNextOne now start place → length places < true_count old
  TakenBelow-fewer place next =
      let all = sym (length-true_places 0 old) ∙ ap length (sym t.split) ∙ length-append places (true_places start (drop start old)) in
      let some = ap length (true_places-next old start place (next_was place next)) in
      omega (arith, all, some)

  -- where there is no next, all are taken
  pub TakenBelow-all : HasNoneFrom now start → places ≡ true_places 0 old
  TakenBelow-all none_left =
      sym (append-nil places) ∙ ap (λ rest. places ++ rest) (sym (true_places-none old start (λ k past. sym (t.rest k past) ∙ none_left k past))) ∙ t.split

  pub HasNone-taken : HasNoneFrom now start → HasNone now
  HasNone-taken none_left k = elim (cases_lt k start) [ inl before ↦ t.none k before | inr past ↦ none_left k past ]
