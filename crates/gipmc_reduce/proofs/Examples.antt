-- Worked examples: parts of circuits, and merges: what stands for a literal, the circuit that is left, and some that are none.
use Rattle.std.proofs.Common.{◌≡◌, ℕ, zero, suc, List, [], ◌∷◌, Vec, Bool, true, false, ◌&&◌, Some, None, arith, eqb, refl, sym}
use Rattle.std.specs.declared.alloc.Global.{Global}
use Rattle.std.specs.List.{Contains}
use Rattle.std.proofs.lemmas.Bool.{false≢true}
use Rattle.std.proofs.lemmas.List.Elements.{All-cons, All-nil}
use Rattle.gipsat_cnf.specs.Prelude.{Lit, satisfies_clause}
use Rattle.gipmc_circuits.specs.declared.circuit.And.{And}
use Rattle.gipmc_circuits.specs.declared.circuit.Circuit.{Circuit}
use Rattle.gipmc_circuits.specs.declared.circuit.Latch.{Latch}
use Rattle.gipmc_reduce.proofs.Lists.{is_same}
use Rattle.gipmc_reduce.specs.Cone.{IsPartOf, gate_named, latch_named, literal_named, name}
use Rattle.gipmc_reduce.specs.Correspondence.{Agrees, HoldBoth, ImpliesMerges, IsMergedOf, gate_merged, latch_merged, merged, representative}

abbrev yes_of : ℕ → Lit
yes_of v = record { variable = v; positive = true }

abbrev not_of : ℕ → Lit
not_of v = record { variable = v; positive = false }

-- the variables 1 and 2 of the part are 9 and 16 of the whole circuit, and those past the names are 0
abbrev names : List ℕ
names = 0 ∷ 9 ∷ 16 ∷ []

second_name : literal_named names (not_of 2) ≡ not_of 16
second_name = refl

past_names : name names 3 ≡ 0
past_names = refl

-- the latch 2 of the part is the second latch of the whole circuit; the first one and the gate are left out
abbrev left_out : Latch
left_out = record { variable = 7; next = not_of 8; reset = Some true }

abbrev kept : Latch
kept = record { variable = 16; next = not_of 9; reset = None }

abbrev own : Latch
own = record { variable = 2; next = not_of 1; reset = None }

abbrev left_gate : And
left_gate = record { output = 8; left = yes_of 7; right = yes_of 9 }

latch_is_named : latch_named names own ≡ kept
latch_is_named = refl

a_part : (part whole : Circuit) → part.gates.items ≡ [] → part.latches.items ≡ own ∷ []
    → part.constraints.items ≡ [] → whole.latches.items ≡ left_out ∷ kept ∷ [] → whole.gates.items ≡ left_gate ∷ []
    → IsPartOf names part whole
a_part part whole gates latches constraints others more = record {
  constant = refl;
  gates = rw gates (All-nil (λ g. Contains whole.gates.items (gate_named names g)));
  latches = rw (latches, others)
      (All-cons (λ l. Contains (left_out ∷ kept ∷ []) (latch_named names l)) own [] (1, omega arith, refl)
      (All-nil (λ l. Contains (left_out ∷ kept ∷ []) (latch_named names l))));
  constraints = rw constraints (All-nil (λ l. Contains whole.constraints.items (literal_named names l)));
}

-- the negation of 1 stands for the variable 2, and each other variable for itself, also past the table
abbrev merges : List Lit
merges = yes_of 0 ∷ yes_of 1 ∷ not_of 1 ∷ []

second : representative merges 2 ≡ not_of 1
second = refl

past : representative merges 9 ≡ yes_of 9
past = refl

-- so 1 stands for the negation of 2
negation : merged merges (not_of 2) ≡ yes_of 1
negation = refl

-- the operands of a gate and the next literal of a latch change, and nothing else does
abbrev gate : And
gate = record { output = 4; left = yes_of 2; right = not_of 3 }

abbrev gate_left : And
gate_left = record { output = 4; left = not_of 1; right = not_of 3 }

gate_after : gate_merged merges gate ≡ gate_left
gate_after = refl

abbrev gone : Latch
gone = record { variable = 2; next = not_of 4; reset = Some true }

abbrev latch : Latch
latch = record { variable = 1; next = not_of 2; reset = Some false }

abbrev latch_left : Latch
latch_left = record { variable = 1; next = yes_of 1; reset = Some false }

latch_after : latch_merged merges latch ≡ latch_left
latch_after = refl

-- what is left of a circuit: the latch 2 may be gone
what_is_left : (small whole : Circuit) → whole.gates.items ≡ gate ∷ [] → whole.latches.items ≡ gone ∷ latch ∷ []
    → whole.constraints.items ≡ yes_of 2 ∷ [] → small.inputs.items ≡ whole.inputs.items
    → small.gates.items ≡ gate_left ∷ [] → small.latches.items ≡ latch_left ∷ []
    → small.constraints.items ≡ not_of 1 ∷ [] → IsMergedOf merges small whole
what_is_left small whole gates latches constraints inputs gates_left latches_left constraints_left = record {
  inputs = inputs;
  gates = rw (gates_left, gates)
      (All-cons (Contains (gate_left ∷ [])) gate_left [] (0, omega arith, refl) (All-nil (Contains (gate_left ∷ []))));
  latches = rw (latches_left, latches)
      (All-cons (Contains (latch_merged merges gone ∷ latch_left ∷ [])) latch_left [] (1, omega arith, refl)
      (All-nil (Contains (latch_merged merges gone ∷ latch_left ∷ []))));
  constraints = rw (constraints_left, constraints) refl;
}

-- a constraint may not be gone
refused-constraint_is_gone : (small whole : Circuit) → whole.constraints.items ≡ yes_of 2 ∷ []
    → small.constraints.items ≡ [] → ¬ (IsMergedOf merges small whole)
refused-constraint_is_gone small whole constraints gone left =
    let same = left.constraints in absurd (cc (constraints, gone, same))

-- a variable that is always true: its value is that of the negation of the constant
abbrev one_is_true : List Lit
one_is_true = yes_of 0 ∷ not_of 0 ∷ []

agrees_with_one : Agrees one_is_true (λ v. eqb v 1)
agrees_with_one zero = refl
agrees_with_one (suc zero) = refl
agrees_with_one (suc (suc n)) = sym (is_same (eqb (suc (suc n)) 1))

refused-one_is_false : ¬ (Agrees one_is_true (λ v. false))
refused-one_is_false agrees = false≢true (agrees 1)

-- without clauses no variable is shown to be that, and none has to be
refused-no_clause : ¬ (ImpliesMerges [] one_is_true)
refused-no_clause implied = false≢true (implied (λ v. false) refl refl 1)

no_merge : ImpliesMerges [] []
no_merge a low all v = sym (is_same (a v))

-- a clause and one more hold where both do, and not where the first one does
both_clauses : (one other : Vec Lit Global) → HoldBoth (one ∷ other ∷ []) (one ∷ []) (other ∷ [])
both_clauses one other a = by_value (satisfies_clause a one.items) (satisfies_clause a other.items)
  where
    by_value : (b d : Bool) → (b && (d && true)) ≡ ((b && true) && (d && true))
    by_value true d = refl
    by_value false d = refl

refused-one_of_two : (one other : Vec Lit Global) → one.items ≡ [] → other.items ≡ not_of 0 ∷ []
    → ¬ (HoldBoth (other ∷ []) (one ∷ []) (other ∷ []))
refused-one_of_two one other none constant both = false≢true (sym (rw (none, constant) at both (λ v. false)))
