-- Worked examples: an arbiter that is fair and one that starves, fairness that no run meets, a constraint that ends every
-- run, lassos, and the longer circuits.
use Rattle.std.proofs.Common.{◌≡◌, ℕ, zero, suc, ◌+◌, ◌≤◌, ◌++◌, ◌-◌, ◌&&◌, ◌||◌, eqb, Bool, true, false, not, List, [], ◌∷◌, Some, IsTrue, arith, refl, sym, ap, subst, ◌∙◌}
use Rattle.std.specs.Prelude.{slice_get}
use Rattle.std.specs.Bool.{beq}
use Rattle.std.specs.Cmp.{booleans_Decides}
use Rattle.std.specs.List.{list_all}
use Rattle.std.proofs.lemmas.Bool.{and_parts, eqb-true, false≢true, not-true}
use Rattle.std.proofs.Math.Nat.{le_refl}
use Rattle.gipsat_cnf.specs.Prelude.{Assignment, Lit, is_true, makes_true}
use Rattle.gipsat_cnf.proofs.Places.{none_some, same_some}
use Rattle.gipmc_circuits.specs.declared.circuit.And.{And}
use Rattle.gipmc_circuits.specs.declared.circuit.Circuit.{Circuit}
use Rattle.gipmc_circuits.specs.declared.circuit.Latch.{Latch}
use Rattle.gipmc_circuits.specs.Circuit.{has_value, holds_next, holds_reset, is_moment, is_valuation}
use Rattle.gipmc_reduce.specs.Chains.{all_passed, not_of, stage_gates, stage_latches, top, yes_of}
use Rattle.gipmc_reduce.specs.Lassos.{IsMet}
use Rattle.gipmc_reduce.specs.Saved.{HasLasso, gate, last_of, latch, note, saver_gates, saver_latches, saving, shadow}
use Rattle.gipmc_reduce.specs.Liveness.{FailsForever, IsLive, IsRun}
use Rattle.gipmc_reduce.specs.Longer.{NeverMeetsMore}
use Rattle.gipmc_reduce.specs.Turns.{MetBetween, always, turn, turns}

-- an arbiter grants by turns: its turn changes at each transition; another one never lets it change
abbrev changes : Latch
changes = record { variable = 1; next = not_of 1; reset = Some false }

abbrev stays : Latch
stays = record { variable = 1; next = yes_of 1; reset = Some false }

-- a client waits from the start on, until it is its turn
abbrev waits : Latch
waits = record { variable = 2; next = yes_of 3; reset = Some true }

abbrev still : And
still = record { output = 3; left = yes_of 2; right = not_of 1 }

-- the client alone waits
abbrev waiting_forever : Assignment
waiting_forever v = eqb v 2 || eqb v 3

-- the one literal of a list
only_one : (l m : Lit) (k : ℕ) → slice_get (l ∷ []) k ≡ Some m → l ≡ m
only_one l m zero at = same_some l m at
only_one l m (suc k) at = none_some m at

-- where the turn stays, the client may wait forever
starving : (c : Circuit) → c.latches.items ≡ stays ∷ waits ∷ [] → c.gates.items ≡ still ∷ []
    → c.constraints.items ≡ [] → FailsForever c [] (yes_of 2 ∷ [])
starving c latches gates constraints = (
  (λ i. waiting_forever),
  record {
    initial = rw latches refl;
    moments = λ i. rw (gates, constraints) refl;
    transitions = λ i. rw latches refl;
  },
  λ l (k, at) n. (n, omega arith, subst (λ m. IsTrue (is_true waiting_forever m)) (only_one (yes_of 2) l k at) refl),
)

value_of : (x y : Bool) → IsTrue (beq x y) → x ≡ y
value_of x y is = (booleans_Decides x y).0 is

zero_false : (c : Circuit) (a : Assignment) → IsTrue (is_moment c a) → a 0 ≡ false
zero_false c a is =
    let (valuation, constraints) = and_parts (is_valuation c a) (makes_true a c.constraints.items) is in
    not-true (a 0) (and_parts (not (a 0)) (list_all (has_value a) c.gates.items) valuation).0

-- what holds of a run of the fair arbiter
record Fair (t : ℕ → Assignment) : Type 0 where
  first : t 0 1 ≡ false
  turn : (i : ℕ) → t (i + 1) 1 ≡ is_true (t i) (not_of 1)
  wait : (i : ℕ) → t (i + 1) 2 ≡ is_true (t i) (yes_of 3)
  gate : (i : ℕ) → t i 3 ≡ (is_true (t i) (yes_of 2) && is_true (t i) (not_of 1))

fair_run : (c : Circuit) (t : ℕ → Assignment) → c.latches.items ≡ changes ∷ waits ∷ [] → c.gates.items ≡ still ∷ []
    → IsRun c t → Fair t
fair_run c t latches gates run = record {
  first =
      value_of (t 0 1) false (and_parts (holds_reset (t 0) changes) (holds_reset (t 0) waits && true) (rw latches at run.initial)).0;
  turn = λ i.
      value_of (t (i + 1) 1) (is_true (t i) (not_of 1))
      (and_parts (holds_next (t i) (t (i + 1)) changes) (holds_next (t i) (t (i + 1)) waits && true) (rw latches at run.transitions i)).0;
  wait = λ i.
      let both = and_parts (holds_next (t i) (t (i + 1)) changes) (holds_next (t i) (t (i + 1)) waits && true) (rw latches at run.transitions i) in
      value_of (t (i + 1) 2) (is_true (t i) (yes_of 3)) (and_parts (holds_next (t i) (t (i + 1)) waits) true both.1).0;
  gate = λ i.
      let valuation = (and_parts (is_valuation c (t i)) (makes_true (t i) c.constraints.items) (run.moments i)).0 in
      let all = (and_parts (not (t i 0)) (list_all (has_value (t i)) c.gates.items) valuation).1 in
      value_of (t i 3) (is_true (t i) (yes_of 2) && is_true (t i) (not_of 1))
      (and_parts (has_value (t i) still) true (rw gates at all)).0;
}

-- a client that waits no more never waits again
served : (t : ℕ → Assignment) → Fair t → (d : ℕ) → t (d + 2) 2 ≡ false
served t fair zero =
    let at_one : t 1 1 ≡ true = fair.turn 0 ∙ ap (λ v. beq v false) fair.first in
    let off : t 1 3 ≡ false = fair.gate 1 ∙ ap (λ v. beq (t 1 2) true && beq v false) at_one ∙ none (beq (t 1 2) true) in
    fair.wait 1 ∙ ap (λ v. beq v true) off
  where
    none : (b : Bool) → (b && false) ≡ false
    none true = refl
    none false = refl
served t fair (suc d) =
    let next : suc d + 2 ≡ (d + 2) + 1 = omega arith in
    let before = served t fair d in
    let off : t (d + 2) 3 ≡ false = fair.gate (d + 2) ∙ ap (λ v. beq v true && is_true (t (d + 2)) (not_of 1)) before in
    ap (λ i. t i 2) next ∙ fair.wait (d + 2) ∙ ap (λ v. beq v true) off

-- where the turn changes, no client waits forever
fair_arbiter : (c : Circuit) → c.latches.items ≡ changes ∷ waits ∷ [] → c.gates.items ≡ still ∷ []
    → IsLive c [] (yes_of 2 ∷ [])
fair_arbiter c latches gates (t, run, recur) =
    let (m, from, is) = recur (yes_of 2) (0, refl) 2 in
    let fair = fair_run c t latches gates run in
    let past : t m 2 ≡ false = ap (λ i. t i 2) (split m from) ∙ served t fair (m - 2) in
    false≢true (sym past ∙ value_of (t m 2) true is)
  where
    split : (m : ℕ) → 2 ≤ m → m ≡ (m - 2) + 2
    split m from = omega (arith, from)

-- no run is fair where the constant is to recur
never_fair : (c : Circuit) (justice : List Lit) → IsLive c (yes_of 0 ∷ []) justice
never_fair c justice (t, run, recur) =
    let (m, from, is) = recur (yes_of 0) (0, refl) 0 in
    false≢true (sym (zero_false c (t m) (run.moments m)) ∙ value_of (t m 0) true is)

-- a constraint that the second moment breaks ends every run
no_run : (c : Circuit) (fairness justice : List Lit) → c.latches.items ≡ changes ∷ []
    → c.constraints.items ≡ not_of 1 ∷ [] → IsLive c fairness justice
no_run c fairness justice latches constraints (t, run, recur) =
    let first : t 0 1 ≡ false = value_of (t 0 1) false (and_parts (holds_reset (t 0) changes) true (rw latches at run.initial)).0 in
    let second : t 1 1 ≡ is_true (t 0) (not_of 1) =
    value_of (t 1 1) (is_true (t 0) (not_of 1))
    (and_parts (holds_next (t 0) (t 1) changes) true (rw latches at run.transitions 0)).0 in
    let kept : IsTrue (is_true (t 1) (not_of 1) && true) =
    rw constraints at (and_parts (is_valuation c (t 1)) (makes_true (t 1) c.constraints.items) (run.moments 1)).1 in
    let low : t 1 1 ≡ false = value_of (t 1 1) false (and_parts (is_true (t 1) (not_of 1)) true kept).0 in
    false≢true (sym low ∙ second ∙ ap (λ v. beq v false) first)

-- what is true before the loop alone is not met in it
abbrev at_first : ℕ → Assignment
at_first i v = eqb i 0

before_the_loop : ¬ (IsMet 1 2 at_first (yes_of 1))
before_the_loop (zero, from, upto, is) = absurd (omega (arith, from))
before_the_loop (suc m, from, upto, is) =
    let none = eqb-true (suc m) 0 (value_of (at_first (suc m) 1) true is) in absurd (omega (arith, none))

in_the_loop : IsMet 0 2 at_first (yes_of 1)
in_the_loop = (0, omega arith, omega arith, refl)

-- two literals take turns; where there is none, it is the turn of what is always true
in_turn : turns (yes_of 1 ∷ yes_of 2 ∷ []) 3 ≡ yes_of 1 ∷ yes_of 2 ∷ yes_of 1 ∷ []
in_turn = refl

turn_of_none : turn [] 5 ≡ always
turn_of_none = refl

-- what is true at one moment is met once, and not twice
met_once : MetBetween at_first 0 1 (yes_of 1 ∷ [])
met_once = (0, omega arith, refl, omega arith)

not_twice : (n : ℕ) → ¬ (MetBetween at_first 0 n (yes_of 1 ∷ yes_of 1 ∷ []))
not_twice n (i, from, is, (zero, behind, again, rest)) = absurd (omega (arith, behind))
not_twice n (i, from, is, (suc j, behind, again, rest)) =
    let none = eqb-true (suc j) 0 (value_of (at_first (suc j) 1) true again) in absurd (omega (arith, none))

-- a literal that is never true is not met once
never_met : (c : Circuit) → NeverMeetsMore c (yes_of 0 ∷ []) 0
never_met c n (t, trace, met, is) =
    false≢true (sym (zero_false c (t n) (trace.moments n (le_refl n))) ∙ value_of (t n 0) true is)

-- nor is it behind another one: at most one literal is met in turn
stops_at_never : (c : Circuit) → NeverMeetsMore c (always ∷ yes_of 0 ∷ []) 1
stops_at_never c n (t, trace, met, is) =
    false≢true (sym (zero_false c (t n) (trace.moments n (le_refl n))) ∙ value_of (t n 0) true is)

-- a chain of one stage for the literal 1 behind the variables below 2: its latch is 2, its gates are 3 and 4, the last gate
-- is 5
one_latch : stage_latches 2 3 (yes_of 1 ∷ []) ≡ record { variable = 2; next = not_of 4; reset = Some false } ∷ []
one_latch = refl

one_stage : stage_gates 2 3 always (yes_of 1 ∷ [])
    ≡ record { output = 3; left = not_of 0; right = yes_of 1 } ∷ record { output = 4; left = not_of 2; right = not_of 3 } ∷ []
one_stage = refl

one_passed : all_passed 2 always (yes_of 1 ∷ []) ≡ yes_of 2
one_passed = refl

one_top : top 2 (yes_of 1 ∷ []) ≡ 5
one_top = refl

-- a circuit whose one latch is 1 saves by the input 2; 3 is the latch that something is saved, 4 keeps what latch 1 held,
-- 5 notes that it was 1
saver_of_one : saver_latches 2 (1 ∷ []) (yes_of 1 ∷ []) ≡ latch 3 6 ∷ latch 4 10 ∷ latch 5 16 ∷ []
saver_of_one = refl

saving_gates : saving 2 3 6 ≡ gate 6 (not_of 3) (not_of 2) ∷ gate 7 (yes_of 3) (yes_of 3) ∷ []
saving_gates = refl

-- behind gate 7 are those of what is kept, and behind gate 14 those of what is noted
gates_of_one : saver_gates 2 (1 ∷ []) (yes_of 1 ∷ []) ≡ saving 2 3 6 ++ (shadow 3 1 4 7 ++ note 6 (yes_of 1) 5 14)
gates_of_one = refl

-- the last gate: the latch holds what was saved, and it was 1 since
bad_of_one : last_of 2 1 1 ≡ 17
bad_of_one = refl

ends_in_bad : note 6 (yes_of 1) 5 14
    ≡ gate 15 (not_of 6) (yes_of 1) ∷ gate 16 (not_of 5) (not_of 15) ∷ gate 17 (yes_of 14) (yes_of 5) ∷ []
ends_in_bad = refl

-- where the turn stays, the first moment alone is a lasso
waiting_round : (c : Circuit) → c.latches.items ≡ stays ∷ waits ∷ [] → c.gates.items ≡ still ∷ []
    → c.constraints.items ≡ [] → HasLasso c (yes_of 2 ∷ []) 0
waiting_round c latches gates constraints = (
  0,
  (λ i. waiting_forever),
  record {
    trace = record {
      initial = rw latches refl;
      moments = λ i within. rw (gates, constraints) refl;
      transitions = λ i less. rw latches refl;
    };
    within = omega arith;
    back = rw latches refl;
  },
  λ l (k, at). (
    0,
    omega arith,
    omega arith,
    subst (λ m. IsTrue (is_true waiting_forever m)) (only_one (yes_of 2) l k at) refl,
  ),
)
