-- Traces of a circuit whose states a function steps through.
use Rattle.std.proofs.Common.{◌≡◌, ℕ, zero, suc, ◌+◌, IsTrue, arith, subst}
use Rattle.gipsat_cnf.specs.Prelude.{Assignment, Lit, is_true}
use Rattle.gipmc_circuits.specs.declared.circuit.Circuit.{Circuit}
use Rattle.gipmc_circuits.specs.Circuit.{IsSafe, IsTrace, is_initial, is_moment, is_transition}

-- the state after n steps from this one, by the inputs at each of them
abbrev pub state_after : {S I : Type 0} → (S → I → S) → S → (ℕ → I) → ℕ → S
state_after step start inputs zero = start
state_after step start inputs (suc n) = step (state_after step start inputs n) (inputs n)

-- the values at each moment, by the state and the inputs there
abbrev pub values_along : {S I : Type 0} → (S → I → S) → S → (S → I → Assignment) → (ℕ → I) → ℕ → Assignment
values_along step start values inputs n = values (state_after step start inputs n) (inputs n)

-- they are a trace where the values of each state and input are a moment, those of the next state follow it, and those
-- of the first one are initial
pub IsTrace-steps : {S I : Type 0} (c : Circuit) (step : S → I → S) (start : S) (values : S → I → Assignment)
    → ((i : I) → IsTrue (is_initial c (values start i))) → ((s : S) (i : I) → IsTrue (is_moment c (values s i)))
    → ((s : S) (i j : I) → IsTrue (is_transition c (values s i) (values (step s i) j)))
    → (inputs : ℕ → I) (n : ℕ) → IsTrace c n (values_along step start values inputs)
IsTrace-steps c step start values first moments goes inputs n = record {
  initial = first (inputs 0);
  moments = λ i within. moments (state_after step start inputs i) (inputs i);
  transitions = λ i less.
      let next : suc i ≡ i + 1 = omega arith in
      subst (λ k. IsTrue (is_transition c (values_along step start values inputs i) (values_along step start values inputs k)))
      next (goes (state_after step start inputs i) (inputs i) (inputs (suc i)));
}

-- so where the circuit is safe, no state that the steps reach makes the literal true
pub IsSafe-steps : {S I : Type 0} (c : Circuit) (bad : Lit) (step : S → I → S) (start : S)
    (values : S → I → Assignment) → IsSafe c bad → ((i : I) → IsTrue (is_initial c (values start i)))
    → ((s : S) (i : I) → IsTrue (is_moment c (values s i)))
    → ((s : S) (i j : I) → IsTrue (is_transition c (values s i) (values (step s i) j)))
    → (inputs : ℕ → I) (n : ℕ) → ¬ (IsTrue (is_true (values_along step start values inputs n) bad))
IsSafe-steps c bad step start values safe first moments goes inputs n fails =
    safe n (values_along step start values inputs, IsTrace-steps c step start values first moments goes inputs n, fails)
