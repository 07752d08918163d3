-- Literals: equal ones, negations, truth, marks, and clauses that are satisfied.
use Rattle.std.proofs.Common.{◌≡◌, ◌≢◌, ℕ, ◌+◌, ◌*◌, [], ◌∷◌, Some, unwrap_or, suc, zero}
use Rattle.std.proofs.Common.{refl, sym, ap, subst, arith, ◌⊎◌, ⊎_elim, inl, inr, Bool, true, false, cond, not, IsTrue}
use Rattle.std.specs.Prelude.{slice_get}
use Rattle.std.specs.Bool.{beq}
use Rattle.std.specs.Cmp.{booleans_Decides}
use Rattle.std.proofs.lemmas.Bool.{false≢true, cases_eq, or_cases, or_left, or_right}
use Rattle.gipsat_cnf.specs.Prelude.{Assignment, Clause, Has, Lit, code, is_true, negated, satisfies_clause}
use Rattle.gipsat_cnf.proofs.Places.{none_some}

same_literal : (v w : ℕ) (p q : Bool) → 2 * v + cond p 1 0 ≡ 2 * w + cond q 1 0
    → ◌≡◌ {A = Lit} (record { variable = v; positive = p }) (record { variable = w; positive = q })
same_literal v w true true e = let same : v ≡ w = omega (arith, e) in ap (λ u. record { variable = u; positive = true }) same
same_literal v w false false e = let same : v ≡ w = omega (arith, e) in ap (λ u. record { variable = u; positive = false }) same
same_literal v w true false e = absurd (omega (arith, e))
same_literal v w false true e = absurd (omega (arith, e))

-- a number is that of one literal
pub code-injective : (m l : Lit) → code m ≡ code l → m ≡ l
code-injective m l e = same_literal m.variable l.variable m.positive l.positive e

pub cases_literal : (m l : Lit) → (m ≡ l) ⊎ (m ≢ l)
cases_literal m l = ⊎_elim (λ e. inl (code-injective m l e)) (λ ne. inr (λ same. ne (ap code same))) (cases_eq (code m) (code l))

-- a satisfied clause has a true literal
pub true_literal : (a : Assignment) (c : Clause) → satisfies_clause a c ≡ true
    → (l : Lit) × Has c l × (is_true a l ≡ true)
true_literal a [] none = absurd (false≢true none)
true_literal a (l ∷ c) some =
    ⊎_elim (λ here. (l, (0, refl), here)) (λ later. let found = true_literal a c later in (found.0, (suc found.1.0, found.1.1), found.2))
    (or_cases (is_true a l) (satisfies_clause a c) some)

-- a clause with a true literal is satisfied
pub satisfied_by : (a : Assignment) (c : Clause) (k : ℕ) (l : Lit) → slice_get c k ≡ Some l → is_true a l ≡ true
    → satisfies_clause a c ≡ true
satisfied_by a [] k l at is = none_some l at
satisfied_by a (m ∷ c) zero l at is = or_left (is_true a m) (satisfies_clause a c) (subst (λ x. is_true a x ≡ true) (sym (ap (λ o. unwrap_or o m) at)) is)
satisfied_by a (m ∷ c) (suc k) l at is = or_right (is_true a m) (satisfies_clause a c) (satisfied_by a c k l at is)

pub beq_not : (v p : Bool) → beq v p ≡ false → beq v (not p) ≡ true
beq_not true true e = absurd (false≢true (sym e))
beq_not true false e = refl
beq_not false true e = refl
beq_not false false e = absurd (false≢true (sym e))

-- two values are equal if the test says so
pub beq-same : (v p : Bool) → IsTrue (beq v p) → v ≡ p
beq-same v p same = (booleans_Decides v p).0 same

pub beq-true : (v : Bool) → beq v true ≡ v
beq-true true = refl
beq-true false = refl

pub beq-not : (v p : Bool) → beq v (not p) ≡ not (beq v p)
beq-not true true = refl
beq-not true false = refl
beq-not false true = refl
beq-not false false = refl

-- a literal is true exactly if its negation is not
pub is_true-negated : (a : Assignment) (l : Lit) → is_true a (negated l) ≡ not (is_true a l)
is_true-negated a l = beq-not (a l.variable) l.positive

beq_both : (v p : Bool) → beq v p ≡ true → beq v (not p) ≡ true → ⊥
beq_both true true e f = false≢true f
beq_both true false e f = false≢true e
beq_both false true e f = false≢true e
beq_both false false e f = false≢true f

-- no literal is true together with its negation
pub not_both : (a : Assignment) (l : Lit) → is_true a l ≡ true → is_true a (negated l) ≡ true → ⊥
not_both a l e f = beq_both (a l.variable) l.positive e f
