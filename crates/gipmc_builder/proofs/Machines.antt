-- Circuits that do what a step function does: they are safe exactly if no state that it reaches is bad.
use Rattle.std.proofs.Common.{◌≡◌, ⊎_elim, ℕ, zero, suc, ◌+◌, ◌≤◌, ◌&&◌, eqb, cond, Bool, true, false, not, List, [], ◌∷◌, map, IsTrue, arith, refl, sym, ap, subst, ◌∙◌}
use Rattle.std.specs.Bool.{beq}
use Rattle.std.specs.Cmp.{booleans_Decides}
use Rattle.std.specs.List.{list_all}
use Rattle.std.specs.Prelude.{◌↔◌}
use Rattle.std.proofs.Math.Nat.{le_refl}
use Rattle.std.proofs.Math.Path.{fun_ext}
use Rattle.std.proofs.lemmas.Bool.{and_from, and_parts, both_ways, cases_Bool, cond-false, cond-true, eqb-true, eq-eqb, false≢true, not-true, or_left, or_right}
use Rattle.gipsat_cnf.specs.Prelude.{Assignment, Lit, is_true, makes_true}
use Rattle.gipmc_circuits.specs.declared.circuit.Circuit.{Circuit}
use Rattle.gipmc_circuits.specs.declared.circuit.Latch.{Latch}
use Rattle.gipmc_circuits.specs.Prelude.{IsSafe, IsTrace, are_in_order, are_new, holds_reset, is_constant, is_initial, is_source, is_transition, is_valuation, is_variable, is_well_formed, latch_variables, uses_defined, with_variable, with_variables}
use Rattle.gipmc_circuits.proofs.Valuations.{valuation-exists}
use Rattle.gipmc_builder.specs.Machine.{IsMachine, NeverBad, state_after}
use Rattle.gipsat_cnf.proofs.Tests.{all_weaker}
use Rattle.gipmc_builder.proofs.Latched.{held, next_of, start_of, starts}

-- the state at each moment of a trace is the one that the steps reach
pub state_along : {S I : Type 0} (c : Circuit) (bad : Lit) (step : S → I → S) (start : S) (is_bad : S → I → Bool)
    (m : IsMachine c bad step start is_bad) (n : ℕ) (t : ℕ → Assignment) → IsTrace c n t → (i : ℕ) → i ≤ n
    → m.state (t i) ≡ state_after step start (λ k. m.input (t k)) i
state_along c bad step start is_bad m n t is zero within = m.starts (t 0) (is.moments 0 within) is.initial
state_along c bad step start is_bad m n t is (suc i) within =
    let next : i + 1 ≡ suc i = omega arith in
    m.steps (t i) (t (suc i)) (is.moments i (omega (arith, within))) (is.moments (suc i) within)
    (subst (λ k. IsTrue (is_transition c (t i) (t k))) next (is.transitions i (omega (arith, within))))
    ∙ ap (λ s. step s (m.input (t i))) (state_along c bad step start is_bad m n t is i (omega (arith, within)))

-- the variable is none of these
abbrev pub differ : ℕ → List ℕ → Bool
differ w vs = list_all (λ v. not (eqb w v)) vs

other_not : (w v : ℕ) (defined : ℕ → Bool) → defined w ≡ true → not (defined v) ≡ true → not (eqb w v) ≡ true
other_not w v defined is new =
    ⊎_elim (λ same. absurd (both_ways (defined v) (not-true (defined v) new) (subst (λ u. defined u ≡ true) (eqb-true w v same) is)))
    (λ other. ap not other) (cases_Bool (eqb w v))

-- what is defined before differs from what is new
pub new_differ : (vs : List ℕ) (defined : ℕ → Bool) (w : ℕ) → defined w ≡ true → IsTrue (are_new vs defined) → IsTrue (differ w vs)
new_differ [] defined w is new = refl
new_differ (v ∷ vs) defined w is new =
    let (here, rest) = and_parts (not (defined v)) (are_new vs (with_variable v defined)) new in
    and_from (not (eqb w v)) (differ w vs) (other_not w v defined is here)
    (new_differ vs (with_variable v defined) w (or_right (eqb w v) (defined w) is) rest)

-- no latch holds this variable
held_other : (ls : List Latch) (value : Latch → Bool) (a : Assignment) (w : ℕ) → IsTrue (differ w (map (λ l. l.variable) ls))
    → held ls value a w ≡ a w
held_other [] value a w other = refl
held_other (l ∷ ls) value a w other =
    let (here, rest) = and_parts (not (eqb w l.variable)) (differ w (map (λ k. k.variable) ls)) other in
    cond-false (eqb w l.variable) (value l) (held ls value a w) (not-true (eqb w l.variable) here) ∙ held_other ls value a w rest

pub turned : (v w : ℕ) → not (eqb w v) ≡ true → eqb v w ≡ false
turned v w other =
    ⊎_elim (λ same. absurd (both_ways (eqb w v) (not-true (eqb w v) other) (eq-eqb w v (sym (eqb-true v w same)))))
    (λ is. is) (cases_Bool (eqb v w))

-- the first latch holds another variable than each of those behind it
held_behind : (ls ks : List Latch) (value : Latch → Bool) (l : Latch) (a : Assignment) (defined : ℕ → Bool)
    → defined l.variable ≡ true → IsTrue (are_new (map (λ k. k.variable) ks) defined)
    → IsTrue (list_all (λ k. beq (held ls value a k.variable) (value k)) ks)
    → IsTrue (list_all (λ k. beq (held (l ∷ ls) value a k.variable) (value k)) ks)
held_behind ls [] value l a defined is new holds = refl
held_behind ls (k ∷ ks) value l a defined is new holds =
    let before : Latch → Bool = λ k. beq (held ls value a k.variable) (value k) in
    let after : Latch → Bool = λ k. beq (held (l ∷ ls) value a k.variable) (value k) in
    let (here, rest) = and_parts (not (defined k.variable)) (are_new (map (λ k. k.variable) ks) (with_variable k.variable defined)) new in
    let (this, others) = and_parts (before k) (list_all before ks) holds in
    let apart : eqb k.variable l.variable ≡ false = turned k.variable l.variable (other_not l.variable k.variable defined is here) in
    and_from (after k) (list_all after ks)
    (ap (λ v. beq v (value k)) (cond-false (eqb k.variable l.variable) (value l) (held ls value a k.variable) apart) ∙ this)
    (held_behind ls ks value l a (with_variable k.variable defined) (or_right (eqb l.variable k.variable) (defined l.variable) is) rest others)

-- each latch holds its value, if their variables are new one after another
held_all : (ls : List Latch) (value : Latch → Bool) (a : Assignment) (defined : ℕ → Bool)
    → IsTrue (are_new (map (λ l. l.variable) ls) defined) → IsTrue (list_all (λ l. beq (held ls value a l.variable) (value l)) ls)
held_all [] value a defined new = refl
held_all (l ∷ ls) value a defined new =
    let (here, rest) = and_parts (not (defined l.variable)) (are_new (map (λ k. k.variable) ls) (with_variable l.variable defined)) new in
    let first : held (l ∷ ls) value a l.variable ≡ value l =
    cond-true (eqb l.variable l.variable) (value l) (held ls value a l.variable) (eq-eqb l.variable l.variable refl) in
    and_from (beq (held (l ∷ ls) value a l.variable) (value l)) (list_all (λ k. beq (held (l ∷ ls) value a k.variable) (value k)) ls)
    ((booleans_Decides (held (l ∷ ls) value a l.variable) (value l)).1 first)
    (held_behind ls ls value l a (with_variable l.variable defined)
    (or_left (eqb l.variable l.variable) (defined l.variable) (eq-eqb l.variable l.variable refl)) rest
    (held_all ls value a (with_variable l.variable defined) rest))

-- what is defined stays so, and each variable of a list is defined
stays_defined : (vs : List ℕ) (defined : ℕ → Bool) (v : ℕ) → defined v ≡ true → with_variables vs defined v ≡ true
stays_defined [] defined v is = is
stays_defined (w ∷ vs) defined v is = stays_defined vs (with_variable w defined) v (or_right (eqb v w) (defined v) is)

all_defined : (vs : List ℕ) (defined : ℕ → Bool) → IsTrue (list_all (with_variables vs defined) vs)
all_defined [] defined = refl
all_defined (v ∷ vs) defined =
    and_from (with_variables vs (with_variable v defined) v) (list_all (with_variables vs (with_variable v defined)) vs)
    (stays_defined vs (with_variable v defined) v (or_left (eqb v v) (defined v) (eq-eqb v v refl)))
    (all_defined vs (with_variable v defined))

-- what the values are at the variables of a list
same_at : (vs : List ℕ) (inside : ℕ → Bool) (a b : Assignment) → ((v : ℕ) → inside v ≡ true → a v ≡ b v)
    → IsTrue (list_all inside vs) → map a vs ≡ map b vs
same_at [] inside a b same all = refl
same_at (v ∷ vs) inside a b same all =
    let (here, rest) = and_parts (inside v) (list_all inside vs) all in
    ap (λ x. x ∷ map a vs) (same v here) ∙ ap (λ xs. b v ∷ xs) (same_at vs inside a b same rest)

-- the values, with 0 false
abbrev grounded : Assignment → Assignment
grounded a v = cond (eqb v 0) false (a v)

-- values that are the same at the latches hold the same
held_same : (ls : List Latch) (inside : ℕ → Bool) (a b : Assignment) (value : Latch → Bool)
    → ((v : ℕ) → inside v ≡ true → b v ≡ a v) → IsTrue (list_all inside (map (λ l. l.variable) ls))
    → IsTrue (list_all (λ l. beq (a l.variable) (value l)) ls) → IsTrue (list_all (λ l. beq (b l.variable) (value l)) ls)
held_same [] inside a b value same all holds = refl
held_same (l ∷ ls) inside a b value same all holds =
    let (here, rest) = and_parts (inside l.variable) (list_all inside (map (λ k. k.variable) ls)) all in
    let (this, others) = and_parts (beq (a l.variable) (value l)) (list_all (λ k. beq (a k.variable) (value k)) ls) holds in
    and_from (beq (b l.variable) (value l)) (list_all (λ k. beq (b k.variable) (value k)) ls)
    (ap (λ v. beq v (value l)) (same l.variable here) ∙ this) (held_same ls inside a b value same rest others)

all_both : {X : Type 0} (p q : X → Bool) (xs : List X) → IsTrue (list_all p xs) → IsTrue (list_all q xs)
    → IsTrue (list_all (λ x. p x && q x) xs)
all_both p q [] first second = refl
all_both p q (x ∷ xs) first second =
    let (here, rest) = and_parts (p x) (list_all p xs) first in
    let (also, others) = and_parts (q x) (list_all q xs) second in
    and_from (p x && q x) (list_all (λ y. p y && q y) xs) (and_from (p x) (q x) here also) (all_both p q xs rest others)

-- a valuation with what the latches hold and the inputs are given
record Made (c : Circuit) (value : Latch → Bool) (given b : Assignment) : Type 0 where
  valuation : IsTrue (is_valuation c b)
  latches : IsTrue (list_all (λ l. beq (b l.variable) (value l)) c.latches.items)
  inputs : map b c.inputs.items ≡ map given c.inputs.items

made : (c : Circuit) → IsTrue (is_well_formed c) → (value : Latch → Bool) (given : Assignment)
    → (b : Assignment) × Made c value given b
made c formed value given =
    let inputs = c.inputs.items in
    let first = with_variables inputs is_constant in
    let source = held c.latches.items value (grounded given) in
    let (news, rest) = and_parts (are_new inputs is_constant && are_new (latch_variables c) first)
    (are_in_order c.gates.items (is_source c) && uses_defined (is_variable c) c) formed in
    let (new_inputs, new_latches) = and_parts (are_new inputs is_constant) (are_new (latch_variables c) first) news in
    let apart : (v : ℕ) → first v ≡ true → source v ≡ grounded given v = λ v is.
    held_other c.latches.items value (grounded given) v (new_differ (latch_variables c) first v is new_latches) in
    let zero_false : source 0 ≡ false = apart 0 (stays_defined inputs is_constant 0 refl) in
    let (b, is, keeps) = valuation-exists c source formed zero_false in
    let at_inputs : IsTrue (list_all first inputs) = all_defined inputs is_constant in
    let here : (v : ℕ) → (first v && not (eqb 0 v)) ≡ true → b v ≡ given v = λ v both.
    let (inside, not_zero) = and_parts (first v) (not (eqb 0 v)) both in
    keeps v (stays_defined (latch_variables c) first v inside) ∙ apart v inside
    ∙ cond-false (eqb v 0) false (given v) (turned v 0 not_zero)
    in (
      b,
      record {
        valuation = is;
        latches =
            held_same c.latches.items (is_source c) source b value keeps (all_defined (latch_variables c) first)
            (held_all c.latches.items value (grounded given) first new_latches);
        inputs =
            same_at inputs (λ v. first v && not (eqb 0 v)) b given here
            (all_both first (λ v. not (eqb 0 v)) inputs at_inputs (new_differ inputs is_constant 0 refl new_inputs));
      },
    )

-- the values at each moment, by the inputs that are given
pub run : (c : Circuit) → IsTrue (is_well_formed c) → (ℕ → Assignment) → ℕ → Assignment
run c formed given zero = (made c formed start_of (given 0)).0
run c formed given (suc i) = (made c formed (next_of (run c formed given i)) (given (suc i))).0

run-inputs : (c : Circuit) (formed : IsTrue (is_well_formed c)) (given : ℕ → Assignment) (i : ℕ)
    → map (run c formed given i) c.inputs.items ≡ map (given i) c.inputs.items
unfolding run
run-inputs c formed given zero = (made c formed start_of (given 0)).1.inputs
run-inputs c formed given (suc i) = (made c formed (next_of (run c formed given i)) (given (suc i))).1.inputs

run-valuation : (c : Circuit) (formed : IsTrue (is_well_formed c)) (given : ℕ → Assignment) (i : ℕ)
    → IsTrue (is_valuation c (run c formed given i))
unfolding run
run-valuation c formed given zero = (made c formed start_of (given 0)).1.valuation
run-valuation c formed given (suc i) = (made c formed (next_of (run c formed given i)) (given (suc i))).1.valuation

run-initial : (c : Circuit) (formed : IsTrue (is_well_formed c)) (given : ℕ → Assignment)
    → IsTrue (is_initial c (run c formed given 0))
unfolding run
run-initial c formed given =
    let b = (made c formed start_of (given 0)).0 in
    all_weaker (λ l. beq (b l.variable) (start_of l)) (holds_reset b) c.latches.items (λ l is. starts l.reset (b l.variable) is)
    (made c formed start_of (given 0)).1.latches

run-transition : (c : Circuit) (formed : IsTrue (is_well_formed c)) (given : ℕ → Assignment) (i : ℕ)
    → IsTrue (is_transition c (run c formed given i) (run c formed given (suc i)))
unfolding run
run-transition c formed given i = (made c formed (next_of (run c formed given i)) (given (suc i))).1.latches

-- a well-formed circuit without constraints has a trace of each length, whatever inputs are given
pub IsTrace-run : (c : Circuit) (formed : IsTrue (is_well_formed c)) (given : ℕ → Assignment)
    → c.constraints.items ≡ [] → (n : ℕ) → IsTrace c n (run c formed given)
IsTrace-run c formed given none n = record {
  initial = run-initial c formed given;
  moments = λ i within.
      and_from (is_valuation c (run c formed given i)) (makes_true (run c formed given i) c.constraints.items)
      (run-valuation c formed given i)
      (subst (λ ls. IsTrue (makes_true (run c formed given i) ls)) (sym none) refl);
  transitions = λ i less.
      let next : suc i ≡ i + 1 = omega arith in
      subst (λ k. IsTrue (is_transition c (run c formed given i) (run c formed given k))) next (run-transition c formed given i);
}

-- what the circuit's literal says at the end of a trace
bad_along : {S I : Type 0} (c : Circuit) (bad : Lit) (step : S → I → S) (start : S) (is_bad : S → I → Bool)
    (m : IsMachine c bad step start is_bad) (n : ℕ) (t : ℕ → Assignment) → IsTrace c n t
    → is_true (t n) bad ≡ is_bad (state_after step start (λ k. m.input (t k)) n) (m.input (t n))
bad_along c bad step start is_bad m n t is =
    m.tells (t n) (is.moments n (le_refl n))
    ∙ ap (λ s. is_bad s (m.input (t n))) (state_along c bad step start is_bad m n t is n (le_refl n))

-- a circuit that does what a step function does is safe exactly if no state that the steps reach is bad
pub IsSafe-machine : {S I : Type 0} (c : Circuit) (bad : Lit) (step : S → I → S) (start : S) (is_bad : S → I → Bool)
    → IsMachine c bad step start is_bad → IsTrue (is_well_formed c) → IsSafe c bad ↔ NeverBad step start is_bad
IsSafe-machine {S = S} {I = I} c bad step start is_bad m formed = (
  λ safe inputs n.
      let t = run c formed (λ i. m.given (inputs i)) in
      let is = IsTrace-run c formed (λ i. m.given (inputs i)) m.unconstrained n in
      let same : (λ k. m.input (t k)) ≡ inputs =
      fun_ext (λ k. m.gives (inputs k) (t k) (run-inputs c formed (λ i. m.given (inputs i)) k)) in
      let said : is_true (t n) bad ≡ is_bad (state_after step start inputs n) (inputs n) =
      subst (λ (given : ℕ → I). is_true (t n) bad ≡ is_bad (state_after step start given n) (given n)) same
      (bad_along c bad step start is_bad m n t is) in
      ⊎_elim (λ yes. absurd (safe n (t, is, said ∙ yes))) (λ no. no)
      (cases_Bool (is_bad (state_after step start inputs n) (inputs n))),
  λ never n (t, is, fails).
      false≢true
      (sym (never (λ k. m.input (t k)) n) ∙ sym (bad_along c bad step start is_bad m n t is) ∙ fails),
)
