-- Clauses in one list of literals.
use Rattle.std.proofs.Common.{◌≡◌, ℕ, ◌+◌, ◌-◌, ◌^◌, ◌<◌, ◌≤◌, ◌⊎◌, ⊎_elim, inl, inr, List, [], ◌∷◌, ◌++◌, length, get_or, take, drop, Some, suc, zero, refl, sym, ap, ◌∙◌, arith}
use Rattle.std.specs.Prelude.{slice_get, slice_range}
use Rattle.std.proofs.lemmas.List.{take-append-le, drop-append-le, drop_at, take_all, take-map, length-take, length-drop, length-append, get_or-take, get_or-drop}
use Rattle.std.proofs.lemmas.Option.{slice_get_within, slice_get-get_or, get_or_from_slice_get}
use Rattle.gipsat_cnf.specs.Prelude.{AreAllBelow, AreApart, AreBelow, AreSpans, Clause, Has, IsLaidOut, Lit, clauses_of}
use Rattle.gipsat_cnf.specs.declared.cnf.Span.{Span}
use Rattle.gipsat_cnf.proofs.Places.{before_or_last, each_push, none_some, same_some}

range_before : (xs ys : List Lit) (i j : ℕ) → i ≤ j → j ≤ length xs → slice_range (xs ++ ys) i j ≡ slice_range xs i j
range_before xs ys i j order within =
    let short : i ≤ length xs = omega (arith, order, within) in
    let fits : j - i ≤ length (drop i xs) = omega (arith, length-drop i xs, order, within) in
    ap (take (j - i)) (drop-append-le i xs ys short) ∙ take-append-le (j - i) (drop i xs) ys fits

range_last : (xs ys : List Lit) → slice_range (xs ++ ys) (length xs) (length xs + length ys) ≡ ys
range_last xs ys =
    let n : length xs + length ys - length xs ≡ length ys = omega arith in
    ap (λ m. take m (drop (length xs) (xs ++ ys))) n ∙ ap (take (length ys)) (drop_at xs ys (length xs) refl) ∙ take_all (length ys) ys (omega arith)

clauses_before : (xs ys : List Lit) (spans : List Span) → AreSpans (length xs) spans
    → clauses_of (xs ++ ys) spans ≡ clauses_of xs spans
clauses_before xs ys [] are = refl
clauses_before xs ys (s ∷ spans) are =
    let here = are zero s refl in
    ap (λ c. c ∷ clauses_of (xs ++ ys) spans) (range_before xs ys s.start s.end here.0 here.1)
    ∙ ap (λ cs. slice_range xs s.start s.end ∷ cs) (clauses_before xs ys spans (λ k t at. are (suc k) t at))

clauses_push : (xs : List Lit) (spans : List Span) (s : Span)
    → clauses_of xs (spans ++ s ∷ []) ≡ clauses_of xs spans ++ slice_range xs s.start s.end ∷ []
clauses_push xs [] s = refl
clauses_push xs (t ∷ spans) s = ap (λ cs. slice_range xs t.start t.end ∷ cs) (clauses_push xs spans s)

-- one more clause behind the others
pub clauses-append : (xs ys : List Lit) (spans : List Span) (start end : ℕ) → start ≡ length xs
    → end ≡ length xs + length ys → AreSpans (length xs) spans
    → clauses_of (xs ++ ys) (spans ++ record { start = start; end = end } ∷ []) ≡ clauses_of xs spans ++ ys ∷ []
clauses-append xs ys spans start end from to are =
    let s : Span = record { start = start; end = end } in
    let last : slice_range (xs ++ ys) start end ≡ ys = ap (λ i. slice_range (xs ++ ys) i end) from ∙ ap (slice_range (xs ++ ys) (length xs)) to ∙ range_last xs ys in
    clauses_push (xs ++ ys) spans s ∙ ap (λ cs. cs ++ slice_range (xs ++ ys) start end ∷ []) (clauses_before xs ys spans are) ∙ ap (λ c. clauses_of xs spans ++ c ∷ []) last

pub AreSpans-push : (xs ys : List Lit) (spans : List Span) (start end : ℕ) → start ≡ length xs
    → end ≡ length xs + length ys → AreSpans (length xs) spans
    → AreSpans (length (xs ++ ys)) (spans ++ record { start = start; end = end } ∷ [])
AreSpans-push xs ys spans start end from to are k s at =
    each_push (λ (t : Span). (t.start ≤ t.end) × (t.end ≤ length (xs ++ ys))) spans (record { start = start; end = end })
    (λ j t there. let was = are j t there in (was.0, omega (arith, length-append xs ys, was.1))) (omega (arith, from, to), omega (arith, from, to, length-append xs ys)) k s at

-- a literal of a range, by its place among all
pub in_range : (xs : List Lit) (i j k : ℕ) (l : Lit) → j ≤ length xs → slice_get (slice_range xs i j) k ≡ Some l
    → (i + k < j) × (slice_get xs (i + k) ≡ Some l)
in_range xs i j k l within at =
    let less : k < length (take (j - i) (drop i xs)) = slice_get_within (slice_range xs i j) k l at in
    let shorter : k < j - i = omega (arith, less, length-take (j - i) (drop i xs)) in
    let read : get_or (slice_range xs i j) k l ≡ l = get_or_from_slice_get (slice_range xs i j) k l l at in
    let same : get_or xs (i + k) l ≡ l = sym (get_or-drop i xs k l) ∙ sym (get_or-take (j - i) (drop i xs) k l shorter) ∙ read in
    let inside : i + k < length xs = omega (arith, shorter, within) in
    (omega (arith, shorter), slice_get-get_or xs (i + k) l inside ∙ ap Some same)

-- and back
pub from_range : (xs : List Lit) (i j p : ℕ) (l : Lit) → i ≤ p → p < j → j ≤ length xs → slice_get xs p ≡ Some l
    → Has (slice_range xs i j) l
from_range xs i j p l after before within at =
    let read : get_or xs p l ≡ l = get_or_from_slice_get xs p l l at in
    let n : i + (p - i) ≡ p = omega (arith, after) in
    let shorter : p - i < j - i = omega (arith, after, before) in
    let same : get_or (slice_range xs i j) (p - i) l ≡ l = get_or-take (j - i) (drop i xs) (p - i) l shorter ∙ get_or-drop i xs (p - i) l ∙ ap (λ q. get_or xs q l) n ∙ read in
    let inside : p - i < length (slice_range xs i j) = omega (arith, shorter, within, length-take (j - i) (drop i xs), length-drop i xs) in
    (p - i, slice_get-get_or (slice_range xs i j) (p - i) l inside ∙ ap Some same)

-- the span of the clause at a place
pub span_of : (xs : List Lit) (spans : List Span) (k : ℕ) (c : Clause) → slice_get (clauses_of xs spans) k ≡ Some c
    → (s : Span) × (slice_get spans k ≡ Some s) × (slice_range xs s.start s.end ≡ c)
span_of xs [] k c at = none_some c at
span_of xs (s ∷ spans) zero c at = (s, refl, same_some (slice_range xs s.start s.end) c at)
span_of xs (s ∷ spans) (suc k) c at = span_of xs spans k c at

-- the clause in the span at a place
pub clause_at : (xs : List Lit) (spans : List Span) (k : ℕ) (s : Span) → slice_get spans k ≡ Some s
    → slice_get (clauses_of xs spans) k ≡ Some (slice_range xs s.start s.end)
clause_at xs [] k s at = none_some s at
clause_at xs (t ∷ spans) zero s at = ap (λ (r : Span). Some (slice_range xs r.start r.end)) (same_some t s at)
clause_at xs (t ∷ spans) (suc k) s at = clause_at xs spans k s at

-- the variables of each clause are below
pub AreAllBelow-laid : (v : ℕ) (xs : List Lit) (spans : List Span) → IsLaidOut v xs spans → AreAllBelow v (clauses_of xs spans)
AreAllBelow-laid v xs spans laid k c at j l there =
    let found = span_of xs spans k c at in
    let s : Span = found.0 in
    let w = laid.within k found.0 found.1 in
    laid.below (s.start + j) l (in_range xs s.start s.end j l w.1 (ap (λ d. slice_get d j) found.2 ∙ there)).1

-- a literal of two lists is one of either
at_append : (xs ys : List Lit) (k : ℕ) (l : Lit) → slice_get (xs ++ ys) k ≡ Some l → Has xs l ⊎ Has ys l
at_append [] ys k l at = inr (k, at)
at_append (x ∷ xs) ys zero l at = inl (zero, at)
at_append (x ∷ xs) ys (suc k) l at = ⊎_elim (λ h. inl (suc h.0, h.1)) (λ h. inr h) (at_append xs ys k l at)

-- the spans are still apart with one more behind
apart_push : (n : ℕ) (spans : List Span) (s : Span) → AreSpans n spans → n ≤ s.start → AreApart spans → AreApart (spans ++ s ∷ [])
apart_push n spans s within behind apart j k r t less first second =
    ⊎_elim
    (λ second_before.
    ⊎_elim (λ first_before. apart j k r t less first_before second_before)
    (λ first_last. let inside : k < length spans = slice_get_within spans k t second_before in absurd (omega (arith, less, inside, first_last.0)))
    (before_or_last spans s j r first))
    (λ second_last.
    ⊎_elim (λ first_before. let w = within j r first_before in let start : s.start ≡ t.start = ap (λ (u : Span). u.start) second_last.1 in omega (arith, w.1, behind, start))
    (λ first_last. absurd (omega (arith, less, first_last.0, second_last.0)))
    (before_or_last spans s j r first))
    (before_or_last spans s k t second)

-- one more clause
pub IsLaidOut-push : (v w : ℕ) (xs ys : List Lit) (spans : List Span) (start end : ℕ) → start ≡ length xs
    → end ≡ length xs + length ys → v ≤ w → w ≤ 2 ^ 31 → AreBelow w ys → IsLaidOut v xs spans
    → IsLaidOut w (xs ++ ys) (spans ++ record { start = start; end = end } ∷ [])
IsLaidOut-push v w xs ys spans start end from to more small below laid = record {
  small = small;
  below = λ k l at. ⊎_elim (λ h. let b = laid.below h.0 l h.1 in omega (arith, b, more)) (λ h. below h.0 l h.1) (at_append xs ys k l at);
  within = AreSpans-push xs ys spans start end from to laid.within;
  apart = apart_push (length xs) spans (record { start = start; end = end }) laid.within (omega (arith, from)) laid.apart;
}

of_take : (n : ℕ) (spans : List Span) (k : ℕ) (s : Span) → slice_get (take n spans) k ≡ Some s → slice_get spans k ≡ Some s
of_take zero spans k s at = none_some s at
of_take (suc n) [] k s at = none_some s at
of_take (suc n) (t ∷ spans) zero s at = at
of_take (suc n) (t ∷ spans) (suc k) s at = of_take n spans k s at

-- fewer clauses
pub IsLaidOut-take : (v n : ℕ) (xs : List Lit) (spans : List Span) → IsLaidOut v xs spans → IsLaidOut v xs (take n spans)
IsLaidOut-take v n xs spans laid = record {
  small = laid.small;
  below = laid.below;
  within = λ k s at. laid.within k s (of_take n spans k s at);
  apart = λ j k s t less first second. laid.apart j k s t less (of_take n spans j s first) (of_take n spans k t second);
}

pub clauses-take : (n : ℕ) (xs : List Lit) (spans : List Span) → clauses_of xs (take n spans) ≡ take n (clauses_of xs spans)
clauses-take n xs spans = sym (take-map (λ (s : Span). slice_range xs s.start s.end) n spans)
