-- What clauses that are added one after another mean together, and clauses that choose among literals.
use Rattle.std.proofs.Common.{◌≡◌, ◌↔◌, ℕ, zero, suc, ◌+◌, true, ◌&&◌, List, [], ◌∷◌, ◌++◌, map, take, drop, append_assoc, take-append-drop, IsTrue, arith, refl, sym, ap, subst, ◌∙◌, ⊎_elim}
use Rattle.std.specs.Prelude.{slice_get, Some}
use Rattle.std.specs.List.{list_all}
use Rattle.std.proofs.lemmas.Bool.{and_parts, and_from, cases_lt, cases_Bool}
use Rattle.std.proofs.lemmas.List.{map-append}
use Rattle.std.proofs.lemmas.List.Folds.{list_all-append, list_all-map}
use Rattle.gipsat_cnf.specs.Prelude.{Adds, AddsPart, AllBelow, Assignment, AtLeastOneTrue, AtMostOneTrue, Clause, ExactlyOneTrue, Formula, Has, Lit, at_most_one, exactly_one, is_true, negated, one_false, satisfies, satisfies_clause}
use Rattle.gipsat_cnf.proofs.Formulas.{all-at, all-each, satisfies-first}
use Rattle.gipsat_cnf.proofs.LiteralLemmas.{beq_not, not_both, satisfied_by, true_literal}
use Rattle.gipsat_cnf.proofs.Places.{none_some, same_some}

pub AllBelow-more : (P : ℕ → Type 0) (n : ℕ) → AllBelow n P → P n → AllBelow (n + 1) P
AllBelow-more P n all last i less =
    ⊎_elim (all i) (λ from. subst P (omega (arith, from, less)) last) (cases_lt i n)

-- nothing is added yet
pub Adds-none : (P : Assignment → ℕ → Type 0) (f : Formula) → Adds (λ a. AllBelow 0 (P a)) f f
Adds-none P f a = (λ sat. (sat, λ i none. absurd (omega (arith, none))), λ p. p.0)

-- clauses are added, which say what they say
pub Adds-clauses : (clauses f g : Formula) → g ≡ f ++ clauses → Adds (λ a. IsTrue (satisfies a clauses)) f g
Adds-clauses clauses f g same a =
    let both : satisfies a g ≡ (satisfies a f && satisfies a clauses) = ap (satisfies a) same ∙ list_all-append (satisfies_clause a) f clauses in (
      λ sat. and_parts (satisfies a f) (satisfies a clauses) (sym both ∙ sat),
      λ (was, more). both ∙ and_from (satisfies a f) (satisfies a clauses) was more,
    )

-- what is added means the same
pub Adds-same : (M N : Assignment → Type 0) (f g : Formula) → ((a : Assignment) → M a ↔ N a) → Adds M f g → Adds N f g
Adds-same M N f g same adds a =
    (λ sat. let (was, m) = (adds a).0 sat in (was, (same a).0 m), λ (was, n). (adds a).1 (was, (same a).1 n))

one_clause : (a : Assignment) (c : Clause) → IsTrue (satisfies a (c ∷ [])) ↔ IsTrue (satisfies_clause a c)
one_clause a c =
    (λ sat. (and_parts (satisfies_clause a c) true sat).0, λ is. and_from (satisfies_clause a c) true is refl)

-- a clause is added, which says that one of its literals is true
pub Adds-clause : (clause : Clause) (f g : Formula) → g ≡ f ++ clause ∷ [] → Adds (λ a. IsTrue (satisfies_clause a clause)) f g
Adds-clause clause f g same =
    Adds-same (λ a. IsTrue (satisfies a (clause ∷ []))) (λ a. IsTrue (satisfies_clause a clause)) f g (λ a. one_clause a clause)
    (Adds-clauses (clause ∷ []) f g same)

-- first the one thing is added, then the other
pub Adds-both : (M N : Assignment → Type 0) (f g h : Formula) → Adds M f g → Adds N g h → Adds (λ a. M a × N a) f h
Adds-both M N f g h first then a = (
  λ sat. let (mid, n) = (then a).0 sat in let (was, m) = (first a).0 mid in (was, (m, n)),
  λ (was, (m, n)). (then a).1 ((first a).1 (was, m), n),
)

-- one number more is spoken of
pub Adds-more : (P : Assignment → ℕ → Type 0) (n : ℕ) (f g h : Formula) → Adds (λ a. AllBelow n (P a)) f g → Adds (λ a. P a n) g h
    → Adds (λ a. AllBelow (n + 1) (P a)) f h
Adds-more P n f g h before last =
    Adds-same (λ a. AllBelow n (P a) × P a n) (λ a. AllBelow (n + 1) (P a)) f h
    (λ a. (λ (all, at). AllBelow-more (P a) n all at, λ all. (λ i less. all i (omega (arith, less)), all n (omega arith))))
    (Adds-both (λ a. AllBelow n (P a)) (λ a. P a n) f g h before last)

-- where all is added, a part is
pub AddsPart-whole : (M : Assignment → Type 0) (f g : Formula) → Adds M f g → AddsPart M f g
AddsPart-whole M f g adds a = (λ sat. ((adds a).0 sat).0, λ sat m. (adds a).1 (sat, m))

-- a part of what is implied is a part
pub AddsPart-of : (M N : Assignment → Type 0) (f g : Formula) → ((a : Assignment) → N a → M a) → AddsPart M f g → AddsPart N f g
AddsPart-of M N f g implies part a = ((part a).0, λ sat n. (part a).1 sat (implies a n))

-- first a part is added, then another one
pub AddsPart-then : (M : Assignment → Type 0) (f g h : Formula) → AddsPart M f g → AddsPart M g h → AddsPart M f h
AddsPart-then M f g h first then a =
    (λ sat. (first a).0 ((then a).0 sat), λ sat m. (then a).1 ((first a).1 sat m) m)

-- nothing is a part
pub AddsPart-none : (M : Assignment → Type 0) (f : Formula) → AddsPart M f f
AddsPart-none M f a = (λ sat. sat, λ sat m. sat)

-- the first thing is added, and then a part of the other
pub AddsPart-both : (M N : Assignment → Type 0) (f g h : Formula) → Adds M f g → AddsPart N g h → AddsPart (λ a. M a × N a) f h
AddsPart-both M N f g h first part =
    AddsPart-then (λ a. M a × N a) f g h
    (AddsPart-of M (λ a. M a × N a) f g (λ a both. both.0) (AddsPart-whole M f g first))
    (AddsPart-of N (λ a. M a × N a) g h (λ a both. both.1) part)

-- the first ones of the clauses that are added are a part
pub AddsPart-begun : (M : Assignment → Type 0) (f g h more rest : Formula) → Adds M f h → h ≡ g ++ rest → g ≡ f ++ more
    → AddsPart M f g
AddsPart-begun M f g h more rest adds whole begun a = (
  λ sat. satisfies-first a f more (subst (λ x. IsTrue (satisfies a x)) begun sat),
  λ sat m. satisfies-first a g rest (subst (λ x. IsTrue (satisfies a x)) whole ((adds a).1 (sat, m))),
)

-- so are those of the first ones of some items
pub AddsPart-mapped : {A : Type 0} (clause : A → Clause) (xs : List A) (k : ℕ) (f g : Formula) → g ≡ f ++ map clause (take k xs)
    → AddsPart (λ a. IsTrue (satisfies a (map clause xs))) f g
AddsPart-mapped clause xs k f g same =
    let first = map clause (take k xs) in
    let rest = map clause (drop k xs) in
    let all : map clause xs ≡ first ++ rest = ap (map clause) (sym (take-append-drop k xs)) ∙ map-append clause (take k xs) (drop k xs) in
    let whole : f ++ map clause xs ≡ g ++ rest = ap (λ cs. f ++ cs) all ∙ sym (append_assoc f first rest) ∙ ap (λ h. h ++ rest) (sym same) in
    AddsPart-begun (λ a. IsTrue (satisfies a (map clause xs))) f g (f ++ map clause xs) first rest
    (Adds-clauses (map clause xs) f (f ++ map clause xs) refl) whole same

-- some of the clauses were added, and then a part of the next ones
pub AddsPart-next : (M : Assignment → Type 0) (f g h whole more next rest : Formula) → Adds M f whole → whole ≡ g ++ (next ++ rest)
    → g ≡ f ++ more → AddsPart (λ a. IsTrue (satisfies a next)) g h → AddsPart M f h
AddsPart-next M f g h whole more next rest adds all begun part a = (
  λ sat. satisfies-first a f more (subst (λ x. IsTrue (satisfies a x)) begun ((part a).0 sat)),
  λ sat m.
      let both = sym (list_all-append (satisfies_clause a) g (next ++ rest)) ∙ subst (λ x. IsTrue (satisfies a x)) all ((adds a).1 (sat, m)) in
      let (was, others) = and_parts (satisfies a g) (satisfies a (next ++ rest)) both in
      (part a).1 was (satisfies-first a next rest others),
)

-- of two literals one is false where they are not both true
one_false-says : (a : Assignment) (l m : Lit)
    → IsTrue (satisfies_clause a (one_false l m)) ↔ (IsTrue (is_true a l) → ¬ (IsTrue (is_true a m)))
one_false-says a l m = (
  λ sat is_l is_m. let (n, has, is) = true_literal a (one_false l m) sat in which n has is is_l is_m,
  λ never. ⊎_elim
      (λ is_l. ⊎_elim (λ is_m. absurd (never is_l is_m)) (λ not_m. satisfied_by a (one_false l m) 1 (negated m) refl (beq_not (a m.variable) m.positive not_m))
      (cases_Bool (is_true a m)))
      (λ not_l. satisfied_by a (one_false l m) 0 (negated l) refl (beq_not (a l.variable) l.positive not_l)) (cases_Bool (is_true a l)),
)
  where
    which : (n : Lit) → Has (one_false l m) n → IsTrue (is_true a n) → IsTrue (is_true a l) → ¬ (IsTrue (is_true a m))
    which n (zero, at) is is_l is_m = not_both a l is_l (subst (λ x. is_true a x ≡ true) (sym (same_some (negated l) n at)) is)
    which n (suc zero, at) is is_l is_m = not_both a m is_m (subst (λ x. is_true a x ≡ true) (sym (same_some (negated m) n at)) is)
    which n (suc (suc k), at) is is_l is_m = none_some n at

-- the clause says that at least one of its literals is true
pub at_least_one-says : (a : Assignment) (literals : List Lit) → IsTrue (satisfies_clause a literals) ↔ AtLeastOneTrue literals a
at_least_one-says a literals =
    (λ sat. true_literal a literals sat, λ (l, has, is). satisfied_by a literals has.0 l has.1 is)

first_excludes : (a : Assignment) (l : Lit) (literals : List Lit)
    → ((k : ℕ) (m : Lit) → slice_get literals k ≡ Some m → IsTrue (is_true a l) → ¬ (IsTrue (is_true a m)))
    → AtMostOneTrue literals a → AtMostOneTrue (l ∷ literals) a
first_excludes a l literals excludes rest zero zero m n at there is_m is_n = refl
first_excludes a l literals excludes rest zero (suc j) m n at there is_m is_n =
    absurd (excludes j n there (subst (λ x. is_true a x ≡ true) (sym (same_some l m at)) is_m) is_n)
first_excludes a l literals excludes rest (suc i) zero m n at there is_m is_n =
    absurd (excludes i m at (subst (λ x. is_true a x ≡ true) (sym (same_some l n there)) is_n) is_m)
first_excludes a l literals excludes rest (suc i) (suc j) m n at there is_m is_n = ap suc (rest i j m n at there is_m is_n)

zero≢suc : (k : ℕ) → zero ≡ suc k → ⊥
zero≢suc k same = omega (arith, same)

-- the clauses of all pairs say that at most one of the literals is true
pub at_most_one-says : (a : Assignment) (literals : List Lit) → IsTrue (satisfies a (at_most_one literals)) ↔ AtMostOneTrue literals a
at_most_one-says a [] = (λ sat i j l m at. none_some l at, λ none. refl)
at_most_one-says a (l ∷ literals) =
    let (rest, rest_from) = at_most_one-says a literals in
    let pair = λ (m : Lit). satisfies_clause a (one_false l m) in
    let parts : satisfies a (at_most_one (l ∷ literals)) ≡ (list_all pair literals && satisfies a (at_most_one literals)) =
    list_all-append (satisfies_clause a) (map (one_false l) literals) (at_most_one literals)
    ∙ ap (λ b. b && satisfies a (at_most_one literals)) (list_all-map (satisfies_clause a) (one_false l) literals)
    in (
      λ sat.
          let (pairs, others) = and_parts (list_all pair literals) (satisfies a (at_most_one literals)) (sym parts ∙ sat) in
          first_excludes a l literals (λ k m at. (one_false-says a l m).0 (all-at pair literals k m pairs at)) (rest others),
      λ most. parts ∙ and_from (list_all pair literals) (satisfies a (at_most_one literals))
          (all-each pair literals (λ k m at. (one_false-says a l m).1 (λ is_l is_m. zero≢suc k (most zero (suc k) l m refl at is_l is_m))))
          (rest_from (λ i j m n at there is_m is_n. suc_same (most (suc i) (suc j) m n at there is_m is_n))),
    )
  where
    suc_same : {i j : ℕ} → suc i ≡ suc j → i ≡ j
    suc_same same = omega (arith, same)

-- the clause of all literals and those of all pairs say that exactly one is true
pub exactly_one-says : (a : Assignment) (literals : List Lit) → IsTrue (satisfies a (exactly_one literals)) ↔ ExactlyOneTrue literals a
exactly_one-says a literals =
    let (some, some_from) = at_least_one-says a literals in
    let (most, most_from) = at_most_one-says a literals in (
      λ sat. let (one, pairs) = and_parts (satisfies_clause a literals) (satisfies a (at_most_one literals)) sat in (some one, most pairs),
      λ (one, pairs). and_from (satisfies_clause a literals) (satisfies a (at_most_one literals)) (some_from one) (most_from pairs),
    )

-- added clauses that say that at most one literal is true
pub Adds-at_most_one : (literals : List Lit) (f g : Formula) → g ≡ f ++ at_most_one literals → Adds (AtMostOneTrue literals) f g
Adds-at_most_one literals f g same =
    Adds-same (λ a. IsTrue (satisfies a (at_most_one literals))) (AtMostOneTrue literals) f g (λ a. at_most_one-says a literals)
    (Adds-clauses (at_most_one literals) f g same)

-- added clauses that say that exactly one literal is true
pub Adds-exactly_one : (literals : List Lit) (f g : Formula) → g ≡ f ++ exactly_one literals → Adds (ExactlyOneTrue literals) f g
Adds-exactly_one literals f g same =
    Adds-same (λ a. IsTrue (satisfies a (exactly_one literals))) (ExactlyOneTrue literals) f g (λ a. exactly_one-says a literals)
    (Adds-clauses (exactly_one literals) f g same)
