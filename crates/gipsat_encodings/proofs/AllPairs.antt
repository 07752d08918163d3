-- The clauses of all pairs of literals, in the order in which they are added.
use Rattle.std.proofs.Common.{◌≡◌, ℕ, ◌+◌, ◌-◌, ◌<◌, List, [], ◌∷◌, ◌++◌, append_assoc, length, length-drop, drop, take, get_or, map, IsTrue, refl, sym, ap, ◌∙◌, arith}
use Rattle.std.proofs.lemmas.List.{append-nil, drop_all, drop_more, take_all}
use Rattle.gipsat_cnf.specs.Prelude.{AddsPart, AtMostOneTrue, Formula, Lit, at_most_one, one_false, satisfies}
use Rattle.gipsat_cnf.proofs.Encodings.{Adds-at_most_one, AddsPart-next}

-- some of the clauses are added, and with those of the literals from a place on all are
pub record PairsLeft (ls : List Lit) (place : ℕ) (f g : Formula) : Type 0 where
  pub left : g ++ at_most_one (drop place ls) ≡ f ++ at_most_one ls
  pub begun : (more : Formula) × (g ≡ f ++ more)

-- the literals behind a place, as a slice has them
abbrev behind : List Lit → ℕ → List Lit
behind ls place = take (length ls - (place + 1)) (drop (place + 1) ls)

-- the clauses of the literal at a place, and those of the literals behind it
abbrev pairs_at : List Lit → ℕ → Lit → Formula
pairs_at ls place l = map (one_false l) (behind ls place)

abbrev pairs_behind : List Lit → ℕ → Formula
pairs_behind ls place = at_most_one (drop (place + 1) ls)

-- at first all are left
pub PairsLeft-all : (ls : List Lit) (f : Formula) → PairsLeft ls 0 f f
PairsLeft-all ls f = record { left = refl; begun = ([], sym (append-nil f)) }

-- those of the literal at a place are the next ones
pairs-next : (ls : List Lit) (place : ℕ) (l : Lit) → place < length ls → l ≡ get_or ls place l
    → at_most_one (drop place ls) ≡ pairs_at ls place l ++ pairs_behind ls place
pairs-next ls place l within is =
    let long = length-drop (place + 1) ls in
    let all : behind ls place ≡ drop (place + 1) ls = take_all (length ls - (place + 1)) (drop (place + 1) ls) (omega (arith, long)) in
    ap at_most_one (drop_more ls place l within) ∙ ap (λ x. at_most_one (x ∷ drop (place + 1) ls)) (sym is)
    ∙ ap (λ x. map (one_false l) x ++ pairs_behind ls place) (sym all)

pub PairsLeft-next : (ls : List Lit) (place : ℕ) (l : Lit) (f g h : Formula) → place < length ls → l ≡ get_or ls place l → PairsLeft ls place f g
    → h ≡ g ++ pairs_at ls place l → PairsLeft ls (place + 1) f h
PairsLeft-next ls place l f g h within is before added =
    let (more, begun) = before.begun in
    record {
      left =
          ap (λ x. x ++ pairs_behind ls place) added ∙ append_assoc g (pairs_at ls place l) (pairs_behind ls place)
          ∙ ap (λ x. g ++ x) (sym (pairs-next ls place l within is)) ∙ before.left;
      begun = (more ++ pairs_at ls place l, added ∙ ap (λ x. x ++ pairs_at ls place l) begun ∙ append_assoc f more (pairs_at ls place l));
    }

-- none is left, so all are added
pub pairs-all : (ls : List Lit) (f g : Formula) → PairsLeft ls (length ls) f g → g ≡ f ++ at_most_one ls
pairs-all ls f g before =
    sym (append-nil g) ∙ ap (λ x. g ++ at_most_one x) (sym (drop_all (length ls) ls (omega arith))) ∙ before.left

-- with some of those of the literal at a place, a part of what all say is added
pub AddsPart-pairs : (ls : List Lit) (place : ℕ) (l : Lit) (f g h : Formula) → place < length ls → l ≡ get_or ls place l → PairsLeft ls place f g
    → AddsPart (λ a. IsTrue (satisfies a (pairs_at ls place l))) g h → AddsPart (AtMostOneTrue ls) f h
AddsPart-pairs ls place l f g h within is before part =
    let (more, begun) = before.begun in
    AddsPart-next (AtMostOneTrue ls) f g h (f ++ at_most_one ls) more (pairs_at ls place l) (pairs_behind ls place)
    (Adds-at_most_one ls f (f ++ at_most_one ls) refl) (sym before.left ∙ ap (λ x. g ++ x) (pairs-next ls place l within is)) begun part
