-- What the clauses of gates say, by the values of their literals.
use Rattle.std.proofs.Common.{◌≡◌, ◌↔◌, ℕ, Bool, true, false, cond, not, ◌&&◌, ◌||◌, List, [], ◌∷◌, ◌++◌, map, take, IsTrue, refl, sym, ap, ◌∙◌}
use Rattle.std.specs.List.{list_all}
use Rattle.std.proofs.lemmas.Bool.{and_from, and_parts, false≢true}
use Rattle.std.proofs.lemmas.List.Folds.{list_all-map, list_any-append}
use Rattle.gipsat_cnf.specs.Prelude.{Adds, AddsPart, Assignment, Clause, Formula, Lit, is_true, makes_true, negated, satisfies, satisfies_clause}
use Rattle.gipsat_cnf.proofs.Encodings.{Adds-both, Adds-clause, Adds-clauses, Adds-same, AddsPart-both, AddsPart-mapped, AddsPart-of}
use Rattle.gipsat_cnf.proofs.LiteralLemmas.{is_true-negated}
use Rattle.gipsat_encodings.specs.Gates.{IsAnd, IsChoice, IsOr, IsXor, differ}

not-same : (x y : Bool) → not x ≡ not y → x ≡ y
not-same true true same = refl
not-same false false same = refl
not-same true false same = absurd (false≢true same)
not-same false true same = absurd (false≢true (sym same))

-- no literal of a list is true exactly if each negation is
pub none_true : (a : Assignment) (literals : List Lit) → satisfies_clause a (map negated literals) ≡ not (makes_true a literals)
none_true a [] = refl
none_true a (l ∷ literals) = rw (is_true-negated a l, none_true a literals) (both (is_true a l) (makes_true a literals))
  where
    both : (x y : Bool) → (not x || not y) ≡ not (x && y)
    both true y = refl
    both false y = refl

-- an or of the negations is the negation of an and
pub IsOr-negated : (a : Assignment) (output : Lit) (literals : List Lit) → IsOr (negated output) (map negated literals) a ↔ IsAnd output literals a
IsOr-negated a output literals = (
  λ is. not-same _ _ (sym (is_true-negated a output) ∙ is ∙ none_true a literals),
  λ is. is_true-negated a output ∙ ap not is ∙ sym (none_true a literals),
)

choice-cases : (c o x y : Bool) → ((c ≡ true → o ≡ x) × (not c ≡ true → o ≡ y)) ↔ (o ≡ cond c x y)
choice-cases true o x y = (λ (first, other). first refl, λ is. (λ yes_it_is. is, λ no. absurd (false≢true no)))
choice-cases false o x y = (λ (first, other). other refl, λ is. (λ no. absurd (false≢true no), λ yes_it_is. is))

-- what is chosen where the condition is true, and where it is not
pub IsChoice-cases : (a : Assignment) (output condition x y : Lit)
    → ((IsTrue (is_true a condition) → is_true a output ≡ is_true a x) × (IsTrue (is_true a (negated condition)) → is_true a output ≡ is_true a y))
    ↔ IsChoice output condition x y a
IsChoice-cases a output condition x y =
    let (says, says_from) = choice-cases (is_true a condition) (is_true a output) (is_true a x) (is_true a y) in (
      λ (first, other). says (first, λ no. other (is_true-negated a condition ∙ no)),
      λ is. let (first, other) = says_from is in (first, λ no. other (sym (is_true-negated a condition) ∙ no)),
    )

choice-differ : (x y : Bool) → cond x (not y) y ≡ differ x y
choice-differ true true = refl
choice-differ true false = refl
choice-differ false true = refl
choice-differ false false = refl

-- two differ where the one is the negation of the other if it is true, and else the other
pub IsChoice-xor : (a : Assignment) (output l m : Lit) → IsChoice output l (negated m) m a ↔ IsXor output l m a
IsChoice-xor a output l m =
    let same : cond (is_true a l) (is_true a (negated m)) (is_true a m) ≡ differ (is_true a l) (is_true a m) =
    ap (λ n. cond (is_true a l) n (is_true a m)) (is_true-negated a m) ∙ choice-differ (is_true a l) (is_true a m)
    in
    (λ is. is ∙ same, λ is. is ∙ sym same)

-- the clause that the output is true where the literal is
abbrev pub implied : Lit → Lit → Clause
implied output l = negated l ∷ output ∷ []

-- where one of the literals is true, the output is
pairs-say : (a : Assignment) (output : Lit) (literals : List Lit)
    → list_all (λ l. satisfies_clause a (implied output l)) literals ≡ (not (satisfies_clause a literals) || is_true a output)
pairs-say a output [] = refl
pairs-say a output (l ∷ literals) = rw (is_true-negated a l, pairs-say a output literals) (step (is_true a l) (is_true a output) (satisfies_clause a literals))
  where
    step : (x o s : Bool) → ((not x || (o || false)) && (not s || o)) ≡ (not (x || s) || o)
    step true true true = refl
    step true true false = refl
    step true false s = refl
    step false o s = refl

or-cases : (s o : Bool) → (((s || (not o || false)) && (not s || o)) ≡ true) ↔ (o ≡ s)
or-cases true true = (λ is. refl, λ is. refl)
or-cases true false = (λ no. absurd (false≢true no), λ no. absurd (false≢true no))
or-cases false true = (λ no. absurd (false≢true no), λ no. absurd (false≢true (sym no)))
or-cases false false = (λ is. refl, λ is. refl)

or-says : (a : Assignment) (output : Lit) (literals : List Lit)
    → (IsTrue (satisfies_clause a (literals ++ negated output ∷ [])) × IsTrue (satisfies a (map (implied output) literals))) ↔ IsOr output literals a
or-says a output literals =
    let some : satisfies_clause a (literals ++ negated output ∷ []) ≡ (satisfies_clause a literals || (not (is_true a output) || false)) =
    list_any-append (is_true a) literals (negated output ∷ []) ∙ ap (λ n. satisfies_clause a literals || (n || false)) (is_true-negated a output)
    in
    let pairs : satisfies a (map (implied output) literals) ≡ (not (satisfies_clause a literals) || is_true a output) =
    list_all-map (satisfies_clause a) (implied output) literals ∙ pairs-say a output literals
    in
    let (says, says_from) = or-cases (satisfies_clause a literals) (is_true a output) in (
      λ (one, each). says (and_from _ _ (sym some ∙ one) (sym pairs ∙ each)),
      λ is. let (one, each) = and_parts _ _ (says_from is) in (some ∙ one, pairs ∙ each),
    )

-- the clauses of an or are added
pub Adds-or : (output : Lit) (literals : List Lit) (f g : Formula)
    → g ≡ (f ++ (literals ++ negated output ∷ []) ∷ []) ++ map (implied output) literals → Adds (IsOr output literals) f g
Adds-or output literals f g same =
    let first = literals ++ negated output ∷ [] in
    Adds-same (λ a. IsTrue (satisfies_clause a first) × IsTrue (satisfies a (map (implied output) literals))) (IsOr output literals) f g
    (λ a. or-says a output literals)
    (Adds-both (λ a. IsTrue (satisfies_clause a first)) (λ a. IsTrue (satisfies a (map (implied output) literals))) f (f ++ first ∷ []) g
    (Adds-clause first f (f ++ first ∷ []) refl) (Adds-clauses (map (implied output) literals) (f ++ first ∷ []) g same))

-- the first ones of its clauses are a part
pub AddsPart-or : (output : Lit) (literals : List Lit) (k : ℕ) (f g : Formula)
    → g ≡ (f ++ (literals ++ negated output ∷ []) ∷ []) ++ map (implied output) (take k literals) → AddsPart (IsOr output literals) f g
AddsPart-or output literals k f g same =
    let first = literals ++ negated output ∷ [] in
    AddsPart-of (λ a. IsTrue (satisfies_clause a first) × IsTrue (satisfies a (map (implied output) literals))) (IsOr output literals) f g
    (λ a. (or-says a output literals).1)
    (AddsPart-both (λ a. IsTrue (satisfies_clause a first)) (λ a. IsTrue (satisfies a (map (implied output) literals))) f (f ++ first ∷ []) g
    (Adds-clause first f (f ++ first ∷ []) refl) (AddsPart-mapped (implied output) literals k (f ++ first ∷ []) g same))
