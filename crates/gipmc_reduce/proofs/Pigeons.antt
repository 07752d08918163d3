-- Pigeons: no function takes all numbers to numbers below one of them, each to another one.
use Rattle.std.proofs.Common.{◌≡◌, ⊎_elim, ℕ, zero, suc, ◌-◌, ◌<◌, ◌≤◌, ltb, cond, arith, sym, ◌∙◌}
use Rattle.std.proofs.lemmas.Bool.{cases_lt, cond-false, cond-true, le-ltb, lt-ltb}

-- the number, without a place for p
abbrev closed_up : ℕ → ℕ → ℕ
closed_up p q = cond (ltb q p) q (q - 1)

closed_up-low : (p q : ℕ) → q < p → closed_up p q ≡ q
closed_up-low p q less = cond-true (ltb q p) q (q - 1) (lt-ltb q p less)

closed_up-high : (p q : ℕ) → p ≤ q → closed_up p q ≡ q - 1
closed_up-high p q more = cond-false (ltb q p) q (q - 1) (le-ltb q p more)

closed_up-below : (p q n : ℕ) → p < suc n → q < suc n → (q ≡ p → ⊥) → closed_up p q < n
closed_up-below p q n within also other =
    ⊎_elim
    (λ less. let e = closed_up-low p q less in omega (arith, e, less, within))
    (λ more. let e = closed_up-high p q more in
    ⊎_elim (λ upto. absurd (other (omega (arith, upto, more)))) (λ above. omega (arith, e, above, also)) (cases_lt q (suc p)))
    (cases_lt q p)

closed_up-same : (p q r : ℕ) → (q ≡ p → ⊥) → (r ≡ p → ⊥) → closed_up p q ≡ closed_up p r → q ≡ r
closed_up-same p q r other also same =
    ⊎_elim
    (λ less. ⊎_elim
    (λ low. sym (closed_up-low p q less) ∙ same ∙ closed_up-low p r low)
    (λ high. absurd (also (omega (arith, less, high, same, closed_up-low p q less, closed_up-high p r high))))
    (cases_lt r p))
    (λ more. ⊎_elim
    (λ low. absurd (other (omega (arith, more, low, same, closed_up-high p q more, closed_up-low p r low))))
    (λ high.
    ⊎_elim (λ upto. absurd (other (omega (arith, more, upto))))
    (λ above. ⊎_elim (λ below. absurd (also (omega (arith, high, below))))
    (λ past. omega (arith, above, past, same, closed_up-high p q more, closed_up-high p r high)) (cases_lt r (suc p)))
    (cases_lt q (suc p)))
    (cases_lt r p))
    (cases_lt q p)

-- the numbers below n are too few for all numbers
pub no_room : (n : ℕ) (f : ℕ → ℕ) → ((i : ℕ) → f i < n) → ((i j : ℕ) → i < j → f i ≡ f j → ⊥) → ⊥
no_room zero f below apart = let none = below 0 in absurd (omega (arith, none))
no_room (suc n) f below apart =
    no_room n (λ i. closed_up (f 0) (f (suc i)))
    (λ i. closed_up-below (f 0) (f (suc i)) n (below 0) (below (suc i)) (λ same. apart 0 (suc i) (omega arith) (sym same)))
    (λ i j less same.
    apart (suc i) (suc j) (omega (arith, less))
    (closed_up-same (f 0) (f (suc i)) (f (suc j)) (λ e. apart 0 (suc i) (omega arith) (sym e))
    (λ e. apart 0 (suc j) (omega arith) (sym e)) same))
