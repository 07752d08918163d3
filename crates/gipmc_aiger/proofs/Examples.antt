-- Worked examples of texts.
use Rattle.std.proofs.Common.{◌≡◌, ℕ, List, [], ◌∷◌, ◌++◌, refl, ap, codes, Some, None, true, false}
use Rattle.std.specs.Fmt.{digits}
use Rattle.gipsat_cnf.specs.Literals.{Lit}
use Rattle.gipmc_circuits.specs.declared.circuit.And.{And}
use Rattle.gipmc_circuits.specs.declared.circuit.Circuit.{Circuit}
use Rattle.gipmc_circuits.specs.declared.circuit.Latch.{Latch}
use Rattle.gipmc_circuits.specs.declared.witness_circuit.Link.{Link}
use Rattle.gipmc_circuits.specs.declared.witness_circuit.Register.{Register}
use Rattle.gipmc_aiger.specs.Prelude.{aig_text, bare_of, claim_of, claims_of, greater_first, lassos_of, register_at, shared_with, stimulus_of, witness_body_at, witness_of, witness_rows_of}
use Rattle.gipmc_aiger.specs.Circuits.{LiveRows, Rows, body_at, circuit_of, live_rows_of, liveness_at, gate_at, header_at, latch_at, rows_of, packed_operands_at, properties_at, sizes_at, written_operands_at}

-- a variable and its negation
abbrev yes_of : ℕ → Lit
yes_of variable = record { variable = variable; positive = true }

abbrev no_of : ℕ → Lit
no_of variable = record { variable = variable; positive = false }

-- an input whose negation is bad
abbrev negated_input : Rows
negated_input = record { inputs = 1 ∷ []; latches = []; gates = []; bads = no_of 1 ∷ []; constraints = [] }

-- an output is bad where there is no bad literal
output_is_bad : circuit_of (codes "aag 1 1 0 1 0\n2\n3\ni0 a\no0 b c\nc\nrest") ≡ Some negated_input
unfolding circuit_of live_rows_of body_at liveness_at header_at sizes_at properties_at
output_is_bad = refl

-- it is not where there is one
output_is_dropped : circuit_of (codes "aag 1 1 0 1 0 1\n2\n2\n3\n") ≡ Some negated_input
unfolding circuit_of live_rows_of body_at liveness_at header_at sizes_at properties_at
output_is_dropped = refl

-- a latch of each reset: none given, 0, 1, and free
abbrev resets : Rows
resets = record {
  inputs = [];
  latches =
      record { variable = 1; next = no_of 1; reset = Some false } ∷ record { variable = 2; next = yes_of 2; reset = Some false }
      ∷ record { variable = 3; next = yes_of 3; reset = Some true } ∷ record { variable = 4; next = no_of 4; reset = None } ∷ [];
  gates = [];
  bads = yes_of 2 ∷ [];
  constraints = no_of 3 ∷ [];
}

resets_in_ascii : circuit_of (codes "aag 4 0 4 0 0 1 1\n2 3\n4 4 0\n6 6 1\n8 9 8\n4\n7\n") ≡ Some resets
unfolding circuit_of live_rows_of body_at liveness_at header_at sizes_at properties_at latch_at
resets_in_ascii = refl

resets_in_binary : circuit_of (codes "aig 4 0 4 0 0 1 1 0 0\n3\n4 0\n6 1\n9 8\n4\n7\n") ≡ Some resets
unfolding circuit_of live_rows_of body_at liveness_at header_at sizes_at properties_at latch_at
resets_in_binary = refl

-- two gates, the first of which is an operand of the second
abbrev two_gates : Rows
two_gates = record {
  inputs = 1 ∷ [];
  latches = [];
  gates =
      record { output = 2; left = no_of 1; right = yes_of 1 } ∷ record { output = 3; left = no_of 2; right = yes_of 1 } ∷ [];
  bads = yes_of 3 ∷ [];
  constraints = [];
}

gates_in_ascii : circuit_of (codes "aag 3 1 0 1 2\n2\n6\n4 3 2\n6 5 2\n") ≡ Some two_gates
unfolding circuit_of live_rows_of body_at liveness_at header_at sizes_at properties_at gate_at written_operands_at
gates_in_ascii = refl

gates_in_binary : circuit_of (codes "aig 3 1 0 1 2\n6\n" ++ 1 ∷ 1 ∷ 1 ∷ 3 ∷ []) ≡ Some two_gates
unfolding circuit_of live_rows_of body_at liveness_at header_at sizes_at properties_at gate_at packed_operands_at
gates_in_binary = refl

-- the same gates with the lesser operand first
abbrev turned_gates : Rows
turned_gates = record {
  inputs = 1 ∷ [];
  latches = [];
  gates =
      record { output = 2; left = yes_of 1; right = no_of 1 } ∷ record { output = 3; left = yes_of 1; right = no_of 2 } ∷ [];
  bads = yes_of 3 ∷ [];
  constraints = [];
}

-- the binary form turns them again
turned_gates_in_binary : (c : Circuit) → rows_of c ≡ turned_gates
    → circuit_of (aig_text c) ≡ Some two_gates
unfolding circuit_of live_rows_of body_at liveness_at header_at sizes_at properties_at gate_at packed_operands_at digits
turned_gates_in_binary c same =
    rw (
      ap (λ n. n.inputs) same,
      ap (λ n. n.latches) same,
      ap (λ n. n.gates) same,
      ap (λ n. n.bads) same,
      ap (λ n. n.constraints) same,
    )
    refl

-- a gate whose greater operand is first stays as it is
abbrev gate_in_order : And
gate_in_order = record { output = 3; left = no_of 2; right = yes_of 1 }

order_is_kept : greater_first gate_in_order ≡ gate_in_order
order_is_kept = refl

refused-justice : circuit_of (codes "aag 0 0 0 0 0 0 0 1\n0\n") ≡ None
unfolding circuit_of live_rows_of body_at liveness_at header_at sizes_at properties_at
refused-justice = refl

-- justice and fairness are read over beside bad literals: here two literals of justice, a fairness constraint, and their
-- names
read_over-justice : circuit_of (codes "aag 1 0 1 0 0 1 0 1 1\n2 2\n2\n2\n2\n3\n3\nj0 live\nf0 fair\n")
    ≡ circuit_of (codes "aag 1 0 1 0 0 1\n2 2\n2\n")
unfolding circuit_of live_rows_of body_at liveness_at header_at sizes_at properties_at latch_at
read_over-justice = refl

-- two justice properties, the first of two literals, and a fairness constraint; the output is no bad literal beside them
abbrev two_properties : LiveRows
two_properties = record {
  circuit = record { inputs = 1 ∷ 2 ∷ []; latches = []; gates = []; bads = []; constraints = [] };
  justice = (yes_of 1 ∷ no_of 2 ∷ []) ∷ (yes_of 2 ∷ []) ∷ [];
  fairness = no_of 1 ∷ [];
}

justice_in_ascii : live_rows_of (codes "aag 2 2 0 1 0 0 0 2 1\n2\n4\n0\n2\n1\n2\n5\n4\n3\nj1 b\n") ≡ Some two_properties
unfolding live_rows_of body_at liveness_at header_at sizes_at properties_at
justice_in_ascii = refl

justice_in_binary : live_rows_of (codes "aig 2 2 0 1 0 0 0 2 1\n0\n2\n1\n2\n5\n4\n3\n") ≡ Some two_properties
unfolding live_rows_of body_at liveness_at header_at sizes_at properties_at
justice_in_binary = refl

refused-literal_is_missing : live_rows_of (codes "aag 1 1 0 0 0 0 0 1\n2\n2\n2\n") ≡ None
unfolding live_rows_of body_at liveness_at header_at sizes_at properties_at
refused-literal_is_missing = refl

refused-more_rows : circuit_of (codes "aag 1 1 0 0 0\n2\n4 2 2\n") ≡ None
unfolding circuit_of live_rows_of body_at liveness_at header_at sizes_at properties_at
refused-more_rows = refl

refused-symbol_of_no_row : circuit_of (codes "aag 1 1 0 0 0\n2\ni1 a\n") ≡ None
unfolding circuit_of live_rows_of body_at liveness_at header_at sizes_at properties_at
refused-symbol_of_no_row = refl

refused-cut_off : circuit_of (codes "aag 1 1 0 1 0\n2\n") ≡ None
unfolding circuit_of live_rows_of body_at liveness_at header_at sizes_at properties_at
refused-cut_off = refl

-- an x is false, remarks are read over, and so is what stands behind the end
two_moments : witness_of 1 2 (codes "u0\n1\nc remark\nb7\nx\n01\n1x\n.\n1\n")
    ≡ Some (record { property = 7; latches = false ∷ []; inputs = (false ∷ true ∷ []) ∷ (true ∷ false ∷ []) ∷ [] })
unfolding stimulus_of
two_moments = refl

refused-no_end : witness_of 1 2 (codes "1\nb0\n0\n00\n") ≡ None
unfolding stimulus_of
refused-no_end = refl

-- a certificate of two latches, the first of which begins at the negation of the second
abbrev begins_at : ℕ → Lit → Register
begins_at variable reset = record { variable = variable; next = yes_of variable; reset = reset }

abbrev two_registers : List Register
two_registers = begins_at 1 (no_of 2) ∷ begins_at 2 (yes_of 0) ∷ []

certificate_in_ascii : witness_rows_of (codes "aag 2 0 2 0 0 1\n2 2 5\n4 4\n4\nl0 = 6\nc\n")
    ≡ Some (record {
      inputs = [];
      registers = two_registers;
      gates = [];
      bads = yes_of 2 ∷ [];
      constraints = [];
      symbols = codes "l0 = 6\nc\n";
    })
unfolding witness_rows_of witness_body_at liveness_at header_at sizes_at properties_at register_at
certificate_in_ascii = refl

abbrev link_of : ℕ → Lit → Link
link_of variable literal = record { variable = variable; literal = literal }

-- latches have the values of the literals that symbols name, in any order
shared_by_names : (c : Circuit) → shared_with c [] two_registers (codes "l1 = 7\nl0 = 4\n")
    ≡ link_of 2 (no_of 3) ∷ link_of 1 (yes_of 2) ∷ []
shared_by_names c = refl

-- the other latch is not shared; what stands behind a comment names nothing
shared_by_one_name : (c : Circuit) → shared_with c [] two_registers (codes "l0 = 6\nc\nl1 = 4\n")
    ≡ link_of 1 (yes_of 3) ∷ []
shared_by_one_name c = refl

-- by other names, as by none, inputs and latches are those at the same places, here of an input and one latch
abbrev latch_of : ℕ → Latch
latch_of variable = record { variable = variable; next = yes_of variable; reset = None }

shared_in_order : (c : Circuit) → c.inputs.items ≡ 3 ∷ [] → c.latches.items ≡ latch_of 5 ∷ []
    → shared_with c (4 ∷ []) two_registers (codes "l0 a\nl1 = 4 \ni0 =4\n") ≡ link_of 4 (yes_of 3) ∷ link_of 1 (yes_of 5) ∷ []
shared_in_order c inputs latches = rw (inputs, latches) refl

-- two of four answers have a witness: one of two bad literals, and one of the first
two_claims : claims_of 1 1 (codes "u0\n2\nb3\n.\n1\nb0b1\nx\n1\n.\n0\nb2\n.\n1\nb0\n0\n0\n.\n")
    ≡ Some (record { properties = 0 ∷ 1 ∷ []; latches = false ∷ []; inputs = (true ∷ []) ∷ [] }
    ∷ record { properties = 0 ∷ []; latches = false ∷ []; inputs = (false ∷ []) ∷ [] } ∷ [])
unfolding claim_of
two_claims = refl

-- of a bad literal and a justice property each reader takes its own
abbrev mixed_answers : List ℕ
mixed_answers = codes "1\nb2\n0\n1\n.\n1\nj0j1\n1\n0\n1\n.\n"

claims_of_mixed : claims_of 1 1 mixed_answers
    ≡ Some (record { properties = 2 ∷ []; latches = false ∷ []; inputs = (true ∷ []) ∷ [] } ∷ [])
unfolding claim_of
claims_of_mixed = refl

lassos_of_mixed : lassos_of 1 1 mixed_answers
    ≡ Some (record { properties = 0 ∷ 1 ∷ []; latches = true ∷ []; inputs = (false ∷ []) ∷ (true ∷ []) ∷ [] } ∷ [])
unfolding claim_of
lassos_of_mixed = refl

refused-mixed_line : lassos_of 1 1 (codes "1\nj0b1\n0\n1\n.\n") ≡ None
unfolding claim_of
refused-mixed_line = refl

-- a trace in abc's form names no bad literal; a line with one latch is no status
bare_claim : claims_of 1 2 (codes "0\n10\n01# DONE\n")
    ≡ Some (record { properties = []; latches = false ∷ []; inputs = (true ∷ false ∷ []) ∷ (false ∷ true ∷ []) ∷ [] } ∷ [])
unfolding bare_of
bare_claim = refl

-- and no justice property
lassos_of_bare : lassos_of 1 2 (codes "0\n10\n01# DONE\n") ≡ Some []
lassos_of_bare = refl

refused-letter_alone : claims_of 1 1 (codes "1\nb\n0\n1\n.\n") ≡ None
unfolding claim_of
refused-letter_alone = refl

refused-no_status : claims_of 1 1 (codes "s VERIFIED\n") ≡ None
unfolding claim_of
refused-no_status = refl
