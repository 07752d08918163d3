-- Runs round a loop: what is met in it recurs.
use Rattle.std.proofs.Common.{◌≡◌, ⊎_elim, ℕ, zero, suc, ◌+◌, ◌-◌, ◌<◌, ◌≤◌, eqb, cond, List, IsTrue, arith, sym, ap, subst, ◌∙◌}
use Rattle.std.proofs.lemmas.Bool.{cases_Bool, cond-false, cond-true, eq-eqb, eqb-true, false≢true}
use Rattle.gipsat_cnf.specs.Prelude.{Assignment, Lit, is_true}
use Rattle.gipmc_circuits.specs.declared.circuit.Circuit.{Circuit}
use Rattle.gipmc_circuits.specs.Circuit.{is_transition}
use Rattle.gipmc_reduce.specs.declared.lasso.Lasso.{Lasso}
use Rattle.gipmc_reduce.specs.Lassos.{IsLasso, IsMet, LoopsBack}
use Rattle.gipmc_reduce.specs.Liveness.{FailsForever, IsRun, Recurs}

-- the moment of the lasso behind this one
abbrev behind : ℕ → ℕ → ℕ → ℕ
behind start n p = cond (eqb p n) start (suc p)

-- the moment of the lasso after so many transitions
abbrev pub round : ℕ → ℕ → ℕ → ℕ
round start n zero = zero
round start n (suc i) = behind start n (round start n i)

behind_last : (start n p : ℕ) → p ≡ n → behind start n p ≡ start
behind_last start n p last = cond-true (eqb p n) start (suc p) (eq-eqb p n last)

behind_other : (start n p : ℕ) → (p ≡ n → ⊥) → behind start n p ≡ suc p
behind_other start n p other =
    cond-false (eqb p n) start (suc p) (⊎_elim (λ same. absurd (other (eqb-true p n same))) (λ is. is) (cases_Bool (eqb p n)))

-- either the moment is the last one, or it is not
last_or_not : {P : Type 0} (p n : ℕ) → (p ≡ n → P) → ((p ≡ n → ⊥) → P) → P
last_or_not p n last other =
    ⊎_elim (λ same. last (eqb-true p n same)) (λ fails. other (λ e. false≢true (sym fails ∙ eq-eqb p n e))) (cases_Bool (eqb p n))

round-within : (start n i : ℕ) → start ≤ n → round start n i ≤ n
round-within start n zero within = omega arith
round-within start n (suc i) within =
    let before = round-within start n i within in
    last_or_not (round start n i) n
    (λ last. subst (λ p. p ≤ n) (sym (behind_last start n (round start n i) last)) within)
    (λ other. subst (λ p. p ≤ n) (sym (behind_other start n (round start n i) other)) (less (round start n i) n before other))
  where
    less : (p n : ℕ) → p ≤ n → (p ≡ n → ⊥) → suc p ≤ n
    less p n at_most other = omega (arith, at_most, other)

-- as long as the last moment is not passed, one moment comes after the other
round-on : (start n i d : ℕ) → round start n i + d ≤ n → round start n (i + d) ≡ round start n i + d
round-on start n i zero within = let none : i + 0 ≡ i = omega arith in ap (round start n) none ∙ omega arith
round-on start n i (suc d) within =
    let before = round-on start n i d (omega (arith, within)) in
    let step : i + suc d ≡ suc (i + d) = omega arith in
    ap (round start n) step
    ∙ behind_other start n (round start n (i + d)) (λ last. absurd (omega (arith, within, before, last)))
    ∙ ap suc before ∙ omega arith

-- behind each moment of a run round the loop comes each moment of the loop
round-reaches : (start n m i : ℕ) → start ≤ n → start ≤ m → m ≤ n → (j : ℕ) × (i ≤ j) × (round start n j ≡ m)
round-reaches start n m i within from upto =
    let p = round start n i in
    let rest = n - p in
    let at_end : round start n (i + rest) ≡ p + rest = round-on start n i rest (omega (arith, round-within start n i within)) in
    let last : round start n (i + rest) ≡ n = at_end ∙ omega (arith, round-within start n i within) in
    let back : round start n (suc (i + rest)) ≡ start = behind_last start n (round start n (i + rest)) last in
    let there : round start n (suc (i + rest) + (m - start)) ≡ round start n (suc (i + rest)) + (m - start) =
    round-on start n (suc (i + rest)) (m - start) (omega (arith, back, from, upto)) in (
      suc (i + rest) + (m - start),
      omega arith,
      there ∙ ap (λ q. q + (m - start)) back ∙ omega (arith, from),
    )

-- the run round the loop
abbrev pub looped : ℕ → ℕ → (ℕ → Assignment) → ℕ → Assignment
looped start n t i = t (round start n i)

pub IsRun-looped : (c : Circuit) (start n : ℕ) (t : ℕ → Assignment) → LoopsBack c start n t
    → IsRun c (looped start n t)
IsRun-looped c start n t is = record {
  initial = is.trace.initial;
  moments = λ i. is.trace.moments (round start n i) (round-within start n i is.within);
  transitions = λ i.
      let next : suc i ≡ i + 1 = omega arith in
      let p = round start n i in
      let within = round-within start n i is.within in
      subst (λ k. IsTrue (is_transition c (t p) (t (round start n k)))) next
      (last_or_not p n
      (λ last. subst (λ q. IsTrue (is_transition c (t p) (t q))) (sym (behind_last start n p last))
      (subst (λ q. IsTrue (is_transition c (t q) (t start))) (sym last) is.back))
      (λ other.
      let on : p + 1 ≡ behind start n p = one_more p ∙ sym (behind_other start n p other) in
      subst (λ q. IsTrue (is_transition c (t p) (t q))) on (is.trace.transitions p (before_last p n within other))));
}
  where
    one_more : (p : ℕ) → p + 1 ≡ suc p
    one_more p = omega arith

    before_last : (p n : ℕ) → p ≤ n → (p ≡ n → ⊥) → p < n
    before_last p n at_most other = omega (arith, at_most, other)

pub Recurs-looped : (start n : ℕ) (t : ℕ → Assignment) (l : Lit) → start ≤ n → IsMet start n t l
    → Recurs (looped start n t) l
Recurs-looped start n t l within (m, from, upto, is) i =
    let (j, behind_i, at) = round-reaches start n m i within from upto in
    (j, behind_i, subst (λ q. IsTrue (is_true (t q) l)) (sym at) is)

-- a lasso gives a run on which all that is met in its loop recurs
pub FailsForever-lasso : (c : Circuit) (fairness justice : List Lit) (lasso : Lasso)
    → IsLasso c fairness justice lasso → FailsForever c fairness justice
FailsForever-lasso c fairness justice lasso (fit, loops) =
    let (n, t, rows, back, follows, met) = loops in (
      looped lasso.start n t,
      IsRun-looped c lasso.start n t back,
      λ l has. Recurs-looped lasso.start n t l back.within (met l has),
    )
