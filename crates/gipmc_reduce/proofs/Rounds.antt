-- Rounds of a run in which literals are all true: two of them begin with the same latches, and between them is a lasso.
use Rattle.std.proofs.Common.{◌≡◌, ℕ, zero, suc, ◌+◌, ◌-◌, ◌*◌, ◌<◌, ◌≤◌, ◌++◌, cond, Bool, true, false, List, [], ◌∷◌, map, IsTrue, arith, refl, sym, subst}
use Rattle.std.specs.Bool.{beq}
use Rattle.std.specs.List.{list_all}
use Rattle.std.proofs.lemmas.Bool.{and_from, and_parts}
use Rattle.gipsat_cnf.specs.Prelude.{Assignment, Has, Lit, is_true}
use Rattle.gipsat_cnf.proofs.Places.{none_some, same_some}
use Rattle.gipmc_circuits.specs.declared.circuit.Circuit.{Circuit}
use Rattle.gipmc_circuits.specs.declared.circuit.Latch.{Latch}
use Rattle.gipmc_circuits.specs.Prelude.{holds_next, is_transition, latch_variables}
use Rattle.gipmc_reduce.specs.Liveness.{IsLive, IsRun, Recurs}
use Rattle.gipmc_reduce.specs.Saved.{HasLasso}
use Rattle.gipmc_reduce.proofs.Counted.{IsTrace-run}
use Rattle.gipmc_reduce.proofs.Pigeons.{no_room}

-- what variables hold, as a number
abbrev digit : Bool → ℕ
digit b = cond b 1 0

abbrev code : Assignment → List ℕ → ℕ
code a [] = 0
code a (x ∷ xs) = digit (a x) + 2 * code a xs

-- which is below this one
abbrev room : List ℕ → ℕ
room [] = 1
room (x ∷ xs) = 2 * room xs

digit-small : (b : Bool) → digit b ≤ 1
digit-small true = omega arith
digit-small false = omega arith

code-below : (a : Assignment) (xs : List ℕ) → code a xs < room xs
code-below a [] = omega arith
code-below a (x ∷ xs) = let rest = code-below a xs in let small = digit-small (a x) in omega (arith, rest, small)

digits-same : (b d : Bool) (m n : ℕ) → digit b + 2 * m ≡ digit d + 2 * n → (b ≡ d) × (m ≡ n)
digits-same true true m n same = (refl, omega (arith, same))
digits-same true false m n same = absurd (omega (arith, same))
digits-same false true m n same = absurd (omega (arith, same))
digits-same false false m n same = (refl, omega (arith, same))

-- latches that hold the same are reached alike
goes-alike : (ls : List Latch) (p a b : Assignment) → code a (map (λ l. l.variable) ls) ≡ code b (map (λ l. l.variable) ls)
    → IsTrue (list_all (holds_next p a) ls) → IsTrue (list_all (holds_next p b) ls)
goes-alike [] p a b same all = refl
goes-alike (l ∷ ls) p a b same all =
    let (here, rest) = and_parts (holds_next p a l) (list_all (holds_next p a) ls) all in
    let (this, others) = digits-same (a l.variable) (b l.variable) (code a (map (λ m. m.variable) ls)) (code b (map (λ m. m.variable) ls)) same in
    and_from (holds_next p b l) (list_all (holds_next p b) ls) (subst (λ v. IsTrue (beq v (is_true p l.next))) this here)
    (goes-alike ls p a b others rest)

-- each of the literals is true at some moment from m on and before n
abbrev AllBetween : (ℕ → Assignment) → ℕ → ℕ → List Lit → Type 0
AllBetween t m n ls = (l : Lit) → Has ls l → (i : ℕ) × (m ≤ i) × (i < n) × IsTrue (is_true (t i) l)

-- the end of a round
round-end : (t : ℕ → Assignment) (ls : List Lit) → ((l : Lit) → Has ls l → Recurs t l) → (m : ℕ)
    → (n : ℕ) × (m < n) × AllBetween t m n ls
round-end t [] recur m = (m + 1, omega arith, λ l (k, at). none_some l at)
round-end t (l ∷ ls) recur m =
    let (n, less, met) = round-end t ls (λ k (i, at). recur k (suc i, at)) m in
    let (i, from, is) = recur l (0, refl) m in (
      n + (i + 1),
      omega (arith, less),
      λ k has. both t l ls m n i k less from is met has,
    )
  where
    both : (t : ℕ → Assignment) (l : Lit) (ls : List Lit) (m n i : ℕ) (k : Lit) → m < n → m ≤ i → IsTrue (is_true (t i) l)
        → AllBetween t m n ls → Has (l ∷ ls) k → (j : ℕ) × (m ≤ j) × (j < n + (i + 1)) × IsTrue (is_true (t j) k)
    both t l ls m n i k less from is met (zero, at) =
        (i, from, omega arith, subst (λ x. IsTrue (is_true (t i) x)) (same_some l k at) is)
    both t l ls m n i k less from is met (suc p, at) =
        let (j, after, before, there) = met k (p, at) in (j, after, omega (arith, before), there)

-- where the rounds begin
abbrev round : (t : ℕ → Assignment) (ls : List Lit) → ((l : Lit) → Has ls l → Recurs t l) → ℕ → ℕ
round t ls recur zero = 0
round t ls recur (suc k) = (round-end t ls recur (round t ls recur k)).0

-- a round is behind those before it
round-behind : (t : ℕ → Assignment) (ls : List Lit) (recur : (l : Lit) → Has ls l → Recurs t l) (j d : ℕ)
    → round t ls recur (suc j) ≤ round t ls recur (suc (j + d))
round-behind t ls recur j zero = let none : j ≡ j + 0 = omega arith in subst (λ k. round t ls recur (suc j) ≤ round t ls recur (suc k)) none (at_most (round t ls recur (suc j)))
  where
    at_most : (n : ℕ) → n ≤ n
    at_most n = omega arith
round-behind t ls recur j (suc d) =
    let before = round-behind t ls recur j d in
    let later = (round-end t ls recur (round t ls recur (suc (j + d)))).1 in
    let next : suc (j + d) ≡ j + suc d = omega arith in
    subst (λ k. round t ls recur (suc j) ≤ round t ls recur (suc k)) next
    (less (round t ls recur (suc j)) (round t ls recur (suc (j + d))) (round t ls recur (suc (suc (j + d)))) before later)
  where
    less : (a b c : ℕ) → a ≤ b → b < c → a ≤ c
    less a b c first then = omega (arith, first, then)

-- between two rounds that begin with the same latches is a lasso
lasso-between : (c : Circuit) (t : ℕ → Assignment) (ls : List Lit) (p q r : ℕ) → IsRun c t → p < q → q ≤ r
    → AllBetween t p q ls → code (t p) (latch_variables c) ≡ code (t r) (latch_variables c) → HasLasso c ls (r - 1)
lasso-between c t ls p q r run less upto met same =
    let last : r ≡ (r - 1) + 1 = omega (arith, less, upto) in (
      p,
      t,
      record {
        trace = IsTrace-run c t (r - 1) run;
        within = omega (arith, less, upto);
        back =
            goes-alike c.latches.items (t (r - 1)) (t r) (t p) (sym same)
            (subst (λ k. IsTrue (is_transition c (t (r - 1)) (t k))) (sym last) (run.transitions (r - 1)));
      },
      λ l has. within l (met l has),
    )
  where
    within : (l : Lit) → (i : ℕ) × (p ≤ i) × (i < q) × IsTrue (is_true (t i) l) → (m : ℕ) × (p ≤ m) × (m ≤ r - 1) × IsTrue (is_true (t m) l)
    within l (i, after, before, is) = (i, after, omega (arith, before, upto), is)

-- where no trace leads round a loop in which all of them are true, the circuit is live
pub IsLive-without_lasso : (c : Circuit) (fairness justice : List Lit)
    → ((n : ℕ) → HasLasso c (fairness ++ justice) n → ⊥) → IsLive c fairness justice
IsLive-without_lasso c fairness justice never (t, run, recur) =
    let ls = fairness ++ justice in
    let begins = round t ls recur in
    no_room (room (latch_variables c)) (λ k. code (t (begins k)) (latch_variables c))
    (λ k. code-below (t (begins k)) (latch_variables c))
    (λ j k less same.
    let (end, later, met) = round-end t ls recur (begins j) in
    let split : suc (j + (k - suc j)) ≡ k = omega (arith, less) in
    let upto : begins (suc j) ≤ begins k =
    subst (λ i. begins (suc j) ≤ begins i) split (round-behind t ls recur j (k - suc j)) in
    never (begins k - 1) (lasso-between c t ls (begins j) (begins (suc j)) (begins k) run later upto met same))
