-- Clauses that say that variables have the values of literals.
use Rattle.std.proofs.Common.{◌≡◌, ⊎_elim, ℕ, zero, suc, ◌+◌, ◌<◌, ◌≤◌, ◌&&◌, Bool, true, false, not, List, [], ◌∷◌, ◌++◌, length, get_or, take, IsTrue, Vec, arith, refl, sym, ap, subst, ◌∙◌}
use Rattle.std.specs.Prelude.{slice_index_or}
use Rattle.std.specs.declared.alloc.Global.{Global}
use Rattle.std.specs.Bool.{beq}
use Rattle.std.proofs.Math.Seq.{take-suc}
use Rattle.std.proofs.lemmas.Bool.{cases_lt}
use Rattle.gipsat_cnf.specs.Prelude.{Assignment, Lit, is_true, satisfies_clause}
use Rattle.gipmc_circuits.specs.Certificate.{holds}
use Rattle.gipmc_reduce.proofs.Lists.{is_same}
use Rattle.gipmc_reduce.specs.Correspondence.{AddsClause, AddsEquality, HoldBoth, ImpliesMerges, representative}

together : (x y z : Bool) → (x && (y && z)) ≡ ((x && y) && z)
together true y z = refl
together false y z = refl

-- one clause more
pub AddsClause-push : (clauses : List (Vec Lit Global)) (c : Vec Lit Global) → AddsClause c.items clauses (clauses ++ c ∷ [])
AddsClause-push [] c a = refl_and (satisfies_clause a c.items)
  where
    refl_and : (x : Bool) → (x && true) ≡ x
    refl_and true = refl
    refl_and false = refl
AddsClause-push (d ∷ clauses) c a =
    ap (λ x. satisfies_clause a d.items && x) (AddsClause-push clauses c a)
    ∙ together (satisfies_clause a d.items) (holds clauses a) (satisfies_clause a c.items)

-- a literal of the variable itself has its value
own_value : (a : Assignment) (v : ℕ) (l : Lit) → l.variable ≡ v → l.positive ≡ true → a v ≡ is_true a l
own_value a v l same positive =
    sym (is_same (a v)) ∙ ap (λ w. beq (a w) true) (sym same) ∙ ap (beq (a l.variable)) (sym positive)

-- the clauses so far say that each variable below n has the value of what stands for it
abbrev pub ImpliesBelow : ℕ → List (Vec Lit Global) → List Lit → Type 0
ImpliesBelow n clauses merges =
    (a : Assignment) → IsTrue (not (a 0)) → IsTrue (holds clauses a) → (v : ℕ) → v < n → a v ≡ is_true a (representative merges v)

pub ImpliesBelow-more : (n : ℕ) (l : Lit) (old new : List (Vec Lit Global)) (merges : List Lit)
    → ImpliesBelow n old merges → l ≡ representative merges n → AddsEquality n l old new → ImpliesBelow (n + 1) new merges
ImpliesBelow-more n l old new merges before same adds a none held v less =
    let (kept, value) = adds a none held in
    ⊎_elim (λ below. before a none kept v below)
    (λ not_below.
    let here : n ≡ v = omega (arith, less, not_below) in
    subst (λ w. a w ≡ is_true a (representative merges w)) here (value ∙ ap (is_true a) same))
    (cases_lt v n)

-- past the end of the table each variable stands for itself
past_end : (merges : List Lit) (v : ℕ) (d : Lit) → length merges ≤ v → slice_index_or merges v d ≡ d
past_end [] v d past = refl
past_end (l ∷ merges) zero d past = absurd (omega (arith, past))
past_end (l ∷ merges) (suc v) d past = past_end merges v d (omega (arith, past))

pub ImpliesMerges-all : (clauses : List (Vec Lit Global)) (merges : List Lit) → ImpliesBelow (length merges) clauses merges
    → ImpliesMerges clauses merges
ImpliesMerges-all clauses merges below a none held v =
    ⊎_elim (λ less. below a none held v less)
    (λ past.
    own_value a v (representative merges v)
    (ap (λ l. l.variable) (past_end merges v (record { variable = v; positive = true }) (omega (arith, past))))
    (ap (λ l. l.positive) (past_end merges v (record { variable = v; positive = true }) (omega (arith, past)))))
    (cases_lt v (length merges))

-- one clause more of those that are added
pub HoldBoth-more : (old : List (Vec Lit Global)) (mid new : List (Vec Lit Global)) (others : List (Vec Lit Global)) (k : ℕ)
    → (c d : Vec Lit Global) → HoldBoth mid old (take k others) → k < length others → c ≡ get_or others k d → AddsClause c.items mid new
    → HoldBoth new old (take (k + 1) others)
HoldBoth-more old mid new others k c d before less is adds a =
    adds a ∙ ap (λ x. x && satisfies_clause a c.items) (before a)
    ∙ sym (together (holds old a) (holds (take k others) a) (satisfies_clause a c.items))
    ∙ ap (λ x. holds old a && x) (sym (ap (λ xs. holds xs a) next ∙ AddsClause-push (take k others) c a))
  where
    next : take (k + 1) others ≡ take k others ++ c ∷ []
    next =
        let more : k + 1 ≡ suc k = omega arith in
        ap (λ n. take n others) more ∙ take-suc others k d less ∙ ap (λ x. take k others ++ x ∷ []) (sym is)
