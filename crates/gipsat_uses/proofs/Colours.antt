-- Vertices with colours, as what literals say.
use Rattle.std.proofs.Common.{◌≡◌, ◌↔◌, ℕ, zero, suc, ◌+◌, ◌*◌, ◌<◌, List, [], ◌∷◌, length, get_or, Bool, true, false, IsTrue, arith, refl, sym, ap, subst, ◌∙◌}
use Rattle.std.specs.Prelude.{slice_get, Some}
use Rattle.std.specs.Bool.{beq}
use Rattle.std.proofs.lemmas.Option.{slice_get-get_or, slice_get_within}
use Rattle.gipsat_cnf.specs.Prelude.{Adds, Assignment, AtLeastOneTrue, AtMostOneTrue, Formula, Lit, is_true}
use Rattle.gipsat_cnf.proofs.Encodings.{Adds-same}
use Rattle.gipsat_cnf.proofs.Places.{none_some, same_some}
use Rattle.gipsat_uses.specs.Colouring.{EndsDiffer, EndsDifferAt, HasColour, IsColoured, has_colour}

beq_true : (x : Bool) → beq x true ≡ x
beq_true true = refl
beq_true false = refl

-- a literal that a vertex has a colour is true where it has
pub is_true-colour : (a : Assignment) (colours vertex colour : ℕ) (l : Lit) → l ≡ has_colour colours vertex colour
    → is_true a l ≡ a (vertex * colours + colour)
is_true-colour a colours vertex colour l is = ap (is_true a) is ∙ beq_true (a (vertex * colours + colour))

-- of two literals at most one is true
two : (a : Assignment) (l m : Lit) → (IsTrue (is_true a l) → ¬ (IsTrue (is_true a m))) → AtMostOneTrue (l ∷ m ∷ []) a
two a l m never zero zero x y at there is_x is_y = refl
two a l m never zero (suc zero) x y at there is_x is_y =
    absurd (never (subst (λ z. IsTrue (is_true a z)) (sym (same_some l x at)) is_x) (subst (λ z. IsTrue (is_true a z)) (sym (same_some m y there)) is_y))
two a l m never zero (suc (suc j)) x y at there is_x is_y = none_some y there
two a l m never (suc zero) zero x y at there is_x is_y =
    absurd (never (subst (λ z. IsTrue (is_true a z)) (sym (same_some l y there)) is_y) (subst (λ z. IsTrue (is_true a z)) (sym (same_some m x at)) is_x))
two a l m never (suc zero) (suc zero) x y at there is_x is_y = refl
two a l m never (suc zero) (suc (suc j)) x y at there is_x is_y = none_some y there
two a l m never (suc (suc i)) j x y at there is_x is_y = none_some x at

-- the literals of one colour of two vertices say that not both have it
pub at_most_one-differ : (a : Assignment) (colours v w colour : ℕ) (l m : Lit) → l ≡ has_colour colours v colour
    → m ≡ has_colour colours w colour
    → AtMostOneTrue (l ∷ m ∷ []) a ↔ (HasColour colours a v colour → ¬ (HasColour colours a w colour))
at_most_one-differ a colours v w colour l m of_v of_w =
    let first = is_true-colour a colours v colour l of_v in
    let second = is_true-colour a colours w colour m of_w in (
      λ most has_v has_w. apart (most zero (suc zero) l m refl refl (first ∙ has_v) (second ∙ has_w)),
      λ never. two a l m (λ is_l is_m. never (sym first ∙ is_l) (sym second ∙ is_m)),
    )
  where
    apart : zero ≡ suc zero → ⊥
    apart same = omega (arith, same)

-- one of the literals of a vertex is true where it has a colour
pub at_least_one-coloured : (a : Assignment) (colours vertex : ℕ) (row : List Lit) → length row ≡ colours
    → ((c : ℕ) (l : Lit) → slice_get row c ≡ Some l → l ≡ has_colour colours vertex c)
    → AtLeastOneTrue row a ↔ IsColoured colours a vertex
at_least_one-coloured a colours vertex row len each = (
  λ (l, (c, at), is).
      let inside : c < length row = slice_get_within row c l at in
      (c, omega (arith, inside, len), sym (is_true-colour a colours vertex c l (each c l at)) ∙ is),
  λ (c, less, has).
      let inside : c < length row = omega (arith, less, len) in
      let l = get_or row c (has_colour colours vertex c) in
      let at : slice_get row c ≡ Some l = slice_get-get_or row c (has_colour colours vertex c) inside in
      (l, (c, at), is_true-colour a colours vertex c l (each c l at) ∙ has),
)

-- one edge more is spoken of
pub Adds-edge : (colours : ℕ) (edges : List (ℕ × ℕ)) (k : ℕ) (edge : ℕ × ℕ) (f g : Formula) → slice_get edges k ≡ Some edge
    → Adds (EndsDiffer colours edge) f g → Adds (λ a. EndsDifferAt colours edges a k) f g
Adds-edge colours edges k edge f g at =
    Adds-same (EndsDiffer colours edge) (λ a. EndsDifferAt colours edges a k) f g
    (λ a. (λ differ e there. subst (λ x. EndsDiffer colours x a) (same_some edge e (sym at ∙ there)) differ, λ all. all edge at))
