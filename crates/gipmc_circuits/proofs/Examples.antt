-- Worked examples of traces, of circuits that are safe, of certificates, and of circuits that are well-formed and not.
use Rattle.std.proofs.Common.{◌≡◌, ℕ, ◌+◌, zero, suc, Bool, true, false, not, List, [], ◌∷◌, Vec, Some, None, eqb, length, map, arith, refl, sym, subst}
use Rattle.std.specs.Prelude.{◌==◌, ◌&&◌, ◌||◌, slice_get, IsTrue}
use Rattle.std.specs.declared.alloc.Global.{Global}
use Rattle.std.proofs.Math.Nat.{le_refl}
use Rattle.std.specs.Bool.{beq}
use Rattle.std.specs.List.{list_all}
use Rattle.std.proofs.lemmas.Bool.{and_parts, false≢true}
use Rattle.gipsat_cnf.specs.Prelude.{Assignment, Lit, assignment_in, makes_true}
use Rattle.gipsat_cnf.proofs.Places.{none_some, same_some}
use Rattle.gipmc_circuits.specs.declared.circuit.And.{And}
use Rattle.gipmc_circuits.specs.declared.circuit.Circuit.{Circuit}
use Rattle.gipmc_circuits.specs.declared.trace.Trace.{Trace}
use Rattle.gipmc_circuits.specs.Prelude.{FailsAfter, FailsBy, HoldsRow, HoldsRows, IsSafe, IsTrace, SaySame, are_defined_from, are_in_order, are_new, are_stacked, has_value, have_width, is_constant, is_reset, is_valuation, reset_gate, unlinked, with_variables}

abbrev yes_of : ℕ → Lit
yes_of v = record { variable = v; positive = true }

abbrev not_of : ℕ → Lit
not_of v = record { variable = v; positive = false }

-- variable 1 alone is true
abbrev first : Assignment
first v = eqb v 1

-- a free latch begins at either value, and a latch with a reset only at that
free_latch : (value : Bool) → is_reset None value ≡ true
free_latch value = refl

reset_latch : is_reset (Some false) true ≡ false
reset_latch = refl

-- such a latch alone may hold 1 after three transitions
free_latch_fails : (c : Circuit) → c.latches.items ≡ record { variable = 1; next = yes_of 1; reset = None } ∷ []
    → c.gates.items ≡ [] → c.constraints.items ≡ [] → FailsAfter c (yes_of 1) 3
free_latch_fails c latches gates constraints = (
  (λ i. first),
  record {
    initial = rw latches refl;
    moments = λ i within. rw (gates, constraints) refl;
    transitions = λ i less. rw latches refl;
  },
  refl,
)

-- an input may be bad at the start
bad_at_the_start : (c : Circuit) → c.latches.items ≡ [] → c.gates.items ≡ [] → c.constraints.items ≡ []
    → FailsAfter c (yes_of 1) 0
bad_at_the_start c latches gates constraints = (
  (λ i. first),
  record {
    initial = rw latches refl;
    moments = λ i within. rw (gates, constraints) refl;
    transitions = λ i less. rw latches refl;
  },
  refl,
)

-- a trace of one row, by which an input is bad
holds_one : (row : Vec Bool Global) → row.items ≡ true ∷ [] → HoldsRows (λ i. first) (1 ∷ []) (row ∷ [])
holds_one row is zero r at zero v at_input =
    subst (λ w. first w ≡ assignment_in r.items 0) (same_some 1 v at_input)
    (subst (λ q. true ≡ assignment_in q.items 0) (same_some row r at) (rw is refl))
holds_one row is zero r at (suc k) v at_input = none_some v at_input
holds_one row is (suc i) r at k v at_input = none_some r at

stays_first : (c : Circuit) → c.latches.items ≡ [] → c.gates.items ≡ [] → c.constraints.items ≡ []
    → IsTrace c 0 (λ i. first)
stays_first c latches gates constraints =
    record { initial = rw latches refl; moments = λ i within. rw (gates, constraints) refl; transitions = λ i less. rw latches refl }

no_latches : (row : List Bool) → HoldsRow first [] row
no_latches row k v at = none_some v at

input_is_true : (c : Circuit) (trace : Trace) (row : Vec Bool Global) → c.inputs.items ≡ 1 ∷ []
    → c.latches.items ≡ [] → c.gates.items ≡ [] → c.constraints.items ≡ [] → trace.latches.items ≡ []
    → trace.inputs.items ≡ row ∷ [] → row.items ≡ true ∷ [] → FailsBy c (yes_of 1) trace
input_is_true c trace row inputs latches gates constraints none rows is =
    let at_latches = subst (λ ls. HoldsRow first (map (λ l. l.variable) ls) trace.latches.items) (sym latches) (no_latches trace.latches.items) in
    let at_inputs = subst (λ vs. HoldsRows (λ i. first) vs (row ∷ [])) (sym inputs) (holds_one row is) in (
      rw (none, latches, inputs, rows, is) refl,
      0,
      (λ i. first),
      subst (λ xs. length xs ≡ 0 + 1) (sym rows) refl,
      stays_first c latches gates constraints,
      (at_latches, subst (HoldsRows (λ i. first) c.inputs.items) (sym rows) at_inputs),
      refl,
    )

-- a trace with a value for a latch that the circuit has not
latch_is_too_many : (c : Circuit) (bad : Lit) (trace : Trace) → c.latches.items ≡ []
    → trace.latches.items ≡ false ∷ [] → ¬ (FailsBy c bad trace)
latch_is_too_many c bad trace latches one (fit, n, t, count, is_trace, follows, fails) =
    let (width, rows) = and_parts (length trace.latches.items == length c.latches.items)
    (have_width (length c.inputs.items) trace.inputs.items) fit in
    false≢true (rw (latches, one) at width)

-- a row without a value for an input
input_is_missing : (c : Circuit) (bad : Lit) (trace : Trace) (row : Vec Bool Global)
    → c.inputs.items ≡ 1 ∷ [] → trace.inputs.items ≡ row ∷ [] → row.items ≡ [] → ¬ (FailsBy c bad trace)
input_is_missing c bad trace row inputs rows none (fit, n, t, count, is_trace, follows, fails) =
    let (width, all) = and_parts (length trace.latches.items == length c.latches.items)
    (have_width (length c.inputs.items) trace.inputs.items) fit in
    false≢true (rw (inputs, rows, none) at all)

-- without a row there is no moment, and nothing fails
no_row : (c : Circuit) (bad : Lit) (trace : Trace) → trace.inputs.items ≡ [] → ¬ (FailsBy c bad trace)
no_row c bad trace none (fit, n, t, count, is_trace, follows, fails) =
    let moments : 0 ≡ n + 1 = subst (λ xs. length xs ≡ n + 1) none count in
    absurd (omega (arith, moments))

beq_false : (value : Bool) → not value ≡ true → (beq value false && true) ≡ true
beq_false true is = is
beq_false false is = refl

-- if the bad literal breaks a constraint at the last moment, that moment does not count
not_both : (value : Bool) → beq value true ≡ true → (beq value false && true) ≡ true → ⊥
not_both true bad constraint = false≢true constraint
not_both false bad constraint = false≢true bad

last_moment_breaks : (c : Circuit) → c.constraints.items ≡ not_of 1 ∷ [] → IsSafe c (yes_of 1)
last_moment_breaks c constraints n (t, is, bad) =
    let moment = is.moments n (le_refl n) in
    let kept = (and_parts (is_valuation c (t n)) (makes_true (t n) c.constraints.items) moment).1 in
    not_both (t n 1) bad (rw constraints at kept)

-- where the bad literal is the constant, nothing is bad
nothing_bad : (c : Circuit) → IsSafe c (yes_of 0)
nothing_bad c n (t, is, bad) =
    let moment = is.moments n (le_refl n) in
    let valuation = (and_parts (is_valuation c (t n)) (makes_true (t n) c.constraints.items) moment).0 in
    let zero_false = (and_parts (not (t n 0)) (list_all (has_value (t n)) c.gates.items) valuation).0 in
    not_both (t n 0) bad (beq_false (t n 0) zero_false)

-- where there is no bad literal, each of them is safe
no_bad_literal : (c : Circuit) → c.bads.items ≡ []
    → (place : ℕ) (bad : Lit) → slice_get c.bads.items place ≡ Some bad → IsSafe c bad
no_bad_literal c none place bad at = none_some bad (rw none at at)

-- a constraint is broken where its literal is false
broken_constraint : makes_true first (yes_of 1 ∷ yes_of 2 ∷ []) ≡ false
broken_constraint = refl

-- a gate of an input and of its negation is false
abbrev never : And
never = record { output = 2; left = yes_of 1; right = not_of 1 }

never_has_value : has_value first never ≡ true
never_has_value = refl

-- its operands are defined before it
never_in_order : are_in_order (never ∷ []) (with_variables (1 ∷ []) is_constant) ≡ true
never_in_order = refl

-- not if there is no such input
never_undefined : are_in_order (never ∷ []) is_constant ≡ false
never_undefined = refl

-- a gate that is its own operand is not in order, and no value fits it where it is the negation
abbrev cycle : And
cycle = record { output = 2; left = not_of 2; right = not_of 2 }

cycle_not_in_order : are_in_order (cycle ∷ []) is_constant ≡ false
cycle_not_in_order = refl

-- a variable that two inputs have is not new the second time, and neither is 0
twice_not_new : are_new (1 ∷ 1 ∷ []) is_constant ≡ false
twice_not_new = refl

constant_not_new : are_new (0 ∷ []) is_constant ≡ false
constant_not_new = refl

-- gates that are stacked: the outputs are numbered from one on, each behind its operands
never_stacked : are_stacked (never ∷ []) 2 ≡ true
never_stacked = refl

never_not_stacked : are_stacked (never ∷ []) 3 ≡ false
never_not_stacked = refl

cycle_not_stacked : are_stacked (cycle ∷ []) 2 ≡ false
cycle_not_stacked = refl

-- what a latch holds at first by its reset: 1, and itself
starts_at_one : reset_gate (record { variable = 2; literal = not_of 0 }) ≡ record { output = 2; left = not_of 0; right = not_of 0 }
starts_at_one = refl

starts_anywhere : reset_gate (record { variable = 2; literal = yes_of 2 }) ≡ record { output = 2; left = yes_of 0; right = yes_of 0 }
starts_anywhere = refl

-- two latches that begin at the values of one another do so in no order
crossed_not_in_order : are_defined_from [] (reset_gate (record { variable = 2; literal = yes_of 3 })
    ∷ reset_gate (record { variable = 3; literal = yes_of 2 }) ∷ []) ≡ false
crossed_not_in_order = refl

-- latch 2 is shared, and latch 3 is not
own_latches : unlinked (record { variable = 2; literal = yes_of 5 } ∷ [])
    (record { variable = 2; next = yes_of 1; reset = yes_of 0 } ∷ record { variable = 3; next = yes_of 1; reset = yes_of 2 } ∷ [])
    ≡ record { variable = 3; next = yes_of 1; reset = yes_of 2 } ∷ []
own_latches = refl

-- where a gate has the value that both operands have together, its clause says the same as theirs
both : (x y z : Bool) → IsTrue (beq z (beq x true && beq y true) && true)
    → ((beq z true || false) && true) ≡ ((beq x true || false) && ((beq y true || false) && true))
both true true true is = refl
both true false false is = refl
both false true false is = refl
both false false false is = refl
both true true false is = absurd (false≢true is)
both true false true is = absurd (false≢true is)
both false true true is = absurd (false≢true is)
both false false true is = absurd (false≢true is)

conjunction_apart : (c : Circuit) (whole left right : Vec Lit Global)
    → c.gates.items ≡ record { output = 3; left = yes_of 1; right = yes_of 2 } ∷ [] → whole.items ≡ yes_of 3 ∷ []
    → left.items ≡ yes_of 1 ∷ [] → right.items ≡ yes_of 2 ∷ [] → SaySame c (whole ∷ []) (left ∷ right ∷ [])
conjunction_apart c whole left right gates w l r a valued =
    let value = (and_parts (not (a 0)) (list_all (has_value a) c.gates.items) valued).1 in
    rw (w, l, r) (both (a 1) (a 2) (a 3) (rw gates at value))
