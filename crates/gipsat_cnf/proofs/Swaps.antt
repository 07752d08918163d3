-- Two literals of one clause change their places: it keeps its literals, and the other clauses stay.
use Rattle.std.proofs.Common.{◌≡◌, ◌≢◌, ℕ, ◌+◌, ◌-◌, ◌<◌, ◌≤◌, ⊎_elim, List, [], ◌∷◌, length, map, get_or, drop, Some, false, suc, zero, refl, sym, ap, subst, ◌∙◌, arith}
use Rattle.std.specs.Prelude.{slice_get, slice_range}
use Rattle.std.specs.List.{SwappedAt}
use Rattle.std.proofs.lemmas.List.{ext_get_or, length-take, length-drop, get_or-take, get_or-drop}
use Rattle.std.proofs.lemmas.Option.{slice_get_within, slice_get-get_or, get_or_from_slice_get}
use Rattle.std.proofs.lemmas.Bool.{cases_eq, cases_lt}
use Rattle.gipsat_cnf.specs.Prelude.{AreApart, Clause, Has, IsLaidOut, KeepsBut, Lit, Reorders, clauses_of}
use Rattle.gipsat_cnf.specs.declared.cnf.Span.{Span}
use Rattle.gipsat_cnf.proofs.LayoutLemmas.{clause_at, from_range, in_range}
use Rattle.gipsat_cnf.proofs.Places.{same_some}

-- the literals at two places were swapped
record Swaps (xs ys : List Lit) (a b : ℕ) : Type 0 where
  len : length ys ≡ length xs
  first : (d : Lit) → get_or ys a d ≡ get_or xs b d
  second : (d : Lit) → get_or ys b d ≡ get_or xs a d
  others : (k : ℕ) (d : Lit) → k ≢ a → k ≢ b → get_or ys k d ≡ get_or xs k d

swaps_of : (xs ys : List Lit) (a b : ℕ) → length ys ≡ length xs → SwappedAt xs ys a b → Swaps xs ys a b
swaps_of xs ys a b len is = record { len = len; first = is.0; second = is.1; others = is.2 }

swaps_back : (xs ys : List Lit) (a b : ℕ) → Swaps xs ys a b → Swaps ys xs a b
swaps_back xs ys a b is = record {
  len = sym is.len;
  first = λ d. sym (is.second d);
  second = λ d. sym (is.first d);
  others = λ k d m n. sym (is.others k d m n);
}

at_place : (xs ys : List Lit) (p q : ℕ) (l : Lit) → q < length ys → get_or ys q l ≡ get_or xs p l → slice_get xs p ≡ Some l
    → slice_get ys q ≡ Some l
at_place xs ys p q l inside same at = slice_get-get_or ys q l inside ∙ ap Some (same ∙ get_or_from_slice_get xs p l l at)

-- a literal of a range is still one of it after a swap within the range
moved : (xs ys : List Lit) (a b i j p : ℕ) (l : Lit) → Swaps xs ys a b → i ≤ a → a < j → i ≤ b → b < j → j ≤ length xs
    → i ≤ p → p < j → slice_get xs p ≡ Some l → Has (slice_range ys i j) l
moved xs ys a b i j p l is a_from a_to b_from b_to within after before at =
    let fits : j ≤ length ys = omega (arith, is.len, within) in
    ⊎_elim
    (λ same_a.
    from_range ys i j b l b_from b_to fits
    (at_place xs ys p b l (omega (arith, b_to, fits)) (is.second l ∙ ap (λ q. get_or xs q l) (sym same_a)) at))
    (λ not_a.
    ⊎_elim
    (λ same_b.
    from_range ys i j a l a_from a_to fits
    (at_place xs ys p a l (omega (arith, a_to, fits)) (is.first l ∙ ap (λ q. get_or xs q l) (sym same_b)) at))
    (λ not_b. from_range ys i j p l after before fits (at_place xs ys p p l (omega (arith, before, fits)) (is.others p l not_a not_b) at))
    (cases_eq p b))
    (cases_eq p a)

has_moved : (xs ys : List Lit) (a b i j : ℕ) (l : Lit) → Swaps xs ys a b → i ≤ a → a < j → i ≤ b → b < j → j ≤ length xs
    → Has (slice_range xs i j) l → Has (slice_range ys i j) l
has_moved xs ys a b i j l is a_from a_to b_from b_to within has =
    let at = in_range xs i j has.0 l within has.1 in
    moved xs ys a b i j (i + has.0) l is a_from a_to b_from b_to within (omega arith) at.0 at.1

-- a range stays if both places are outside
range_stays : (xs ys : List Lit) (a b i j : ℕ) → Swaps xs ys a b → ((p : ℕ) → i ≤ p → p < j → (p ≢ a) × (p ≢ b))
    → slice_range ys i j ≡ slice_range xs i j
range_stays xs ys a b i j is outside =
    let d : Lit = record { variable = 0; positive = false } in
    let len : length (slice_range ys i j) ≡ length (slice_range xs i j) =
    omega (arith, is.len, length-take (j - i) (drop i ys), length-take (j - i) (drop i xs), length-drop i ys, length-drop i xs)
    in
    ext_get_or d (slice_range ys i j) (slice_range xs i j) len
    (λ m less.
    let shorter : m < j - i = omega (arith, less, length-take (j - i) (drop i ys)) in
    let out = outside (i + m) (omega arith) (omega (arith, shorter)) in
    get_or-take (j - i) (drop i ys) m d shorter ∙ get_or-drop i ys m d ∙ is.others (i + m) d out.0 out.1
    ∙ sym (get_or-drop i xs m d) ∙ sym (get_or-take (j - i) (drop i xs) m d shorter))

-- a place of one span is none of another span
apart_from : (spans : List Span) (place k : ℕ) (t s : Span) (a p : ℕ) → AreApart spans → slice_get spans place ≡ Some t
    → slice_get spans k ≡ Some s → k ≢ place → t.start ≤ a → a < t.end → s.start ≤ p → p < s.end → p ≢ a
apart_from spans place k t s a p apart at there other a_from a_to p_from p_to same =
    ⊎_elim
    (λ earlier. let e = apart k place s t earlier there at in omega (arith, e, a_from, p_to, same))
    (λ at_least.
    ⊎_elim
    (λ later. let e = apart place k t s later at there in omega (arith, e, a_to, p_from, same))
    (λ at_most. other (omega (arith, at_least, at_most)))
    (cases_lt place k))
    (cases_lt k place)

same_range : (f g : Span → Clause) (spans : List Span) (k : ℕ) → ((s : Span) → slice_get spans k ≡ Some s → f s ≡ g s)
    → slice_get (map f spans) k ≡ slice_get (map g spans) k
same_range f g [] k same = refl
same_range f g (s ∷ spans) zero same = ap Some (same s refl)
same_range f g (s ∷ spans) (suc k) same = same_range f g spans k same

-- a swap within a span keeps the other clauses
pub KeepsBut-swapped : (v : ℕ) (xs ys : List Lit) (spans : List Span) (place : ℕ) (t : Span) (a b : ℕ) → IsLaidOut v xs spans
    → length ys ≡ length xs → SwappedAt xs ys a b
    → slice_get spans place ≡ Some t → t.start ≤ a → a < t.end → t.start ≤ b → b < t.end
    → KeepsBut place (clauses_of xs spans) (clauses_of ys spans)
KeepsBut-swapped v xs ys spans place t a b laid len is at a_from a_to b_from b_to k other =
    same_range (λ s. slice_range ys s.start s.end) (λ s. slice_range xs s.start s.end) spans k
    (λ s there. range_stays xs ys a b s.start s.end (swaps_of xs ys a b len is)
    (λ p p_from p_to. (
      apart_from spans place k t s a p laid.apart at there other a_from a_to p_from p_to,
      apart_from spans place k t s b p laid.apart at there other b_from b_to p_from p_to,
    )))

-- and the literals of the clause in the span
pub Reorders-swapped : (v : ℕ) (xs ys : List Lit) (spans : List Span) (place : ℕ) (t : Span) (a b : ℕ) → IsLaidOut v xs spans
    → length ys ≡ length xs → SwappedAt xs ys a b
    → slice_get spans place ≡ Some t → t.start ≤ a → a < t.end → t.start ≤ b → b < t.end
    → Reorders (clauses_of xs spans) (clauses_of ys spans)
Reorders-swapped v xs ys spans place t a b laid len is at a_from a_to b_from b_to k c there =
    ⊎_elim
    (λ same.
    let swaps = swaps_of xs ys a b len is in
    let w = laid.within place t at in
    let now : slice_range ys t.start t.end ≡ c =
    same_some (slice_range ys t.start t.end) c (sym (clause_at ys spans place t at) ∙ ap (slice_get (clauses_of ys spans)) (sym same) ∙ there)
    in (
      slice_range xs t.start t.end,
      ap (slice_get (clauses_of xs spans)) same ∙ clause_at xs spans place t at,
      λ l. (
        (λ has. has_moved ys xs a b t.start t.end l (swaps_back xs ys a b swaps) a_from a_to b_from b_to (omega (arith, w.1, len))
            (subst (λ d. Has d l) (sym now) has)),
        (λ has. subst (λ d. Has d l) now (has_moved xs ys a b t.start t.end l swaps a_from a_to b_from b_to w.1 has)),
      ),
    ))
    (λ other. (
      c,
      sym (KeepsBut-swapped v xs ys spans place t a b laid len is at a_from a_to b_from b_to k other) ∙ there,
      λ l. ((λ has. has), (λ has. has)),
    ))
    (cases_eq k place)

-- and the layout
pub IsLaidOut-swapped : (v : ℕ) (xs ys : List Lit) (spans : List Span) (a b : ℕ) → IsLaidOut v xs spans
    → length ys ≡ length xs → SwappedAt xs ys a b → a < length xs → b < length xs
    → IsLaidOut v ys spans
IsLaidOut-swapped v xs ys spans a b laid len is a_in b_in =
    let back = swaps_back xs ys a b (swaps_of xs ys a b len is) in
    record {
      small = laid.small;
      below = λ k l at.
          ⊎_elim (λ same. laid.below b l (at_place ys xs k b l b_in (back.second l ∙ ap (λ q. get_or ys q l) (sym same)) at))
          (λ not_a.
          ⊎_elim (λ same. laid.below a l (at_place ys xs k a l a_in (back.first l ∙ ap (λ q. get_or ys q l) (sym same)) at))
          (λ not_b. let inside : k < length ys = slice_get_within ys k l at in laid.below k l (at_place ys xs k k l (omega (arith, inside, len)) (back.others k l not_a not_b) at))
          (cases_eq k b))
          (cases_eq k a);
      within = λ k s at. let w = laid.within k s at in (w.0, omega (arith, w.1, len));
      apart = laid.apart;
    }
