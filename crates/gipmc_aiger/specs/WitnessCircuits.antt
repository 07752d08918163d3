-- Which certificate a text in a form of AIGER writes: a circuit whose latches may have any literal as their reset.
use Rattle.std.specs.Prelude.{◌≡◌, ℕ, ◌+◌, List, Option, Some, None, map, if◌then◌else◌, unwrap_or}
use Rattle.std.specs.List.Sorted.{IsPermutation}
use Rattle.giputils_text.specs.Lines.{line_feed, space}
use Rattle.gipsat_cnf.specs.Literals.{Lit}
use Rattle.gipmc_circuits.specs.declared.circuit.And.{And}
use Rattle.gipmc_circuits.specs.declared.circuit.Circuit.{Circuit}
use Rattle.gipmc_circuits.specs.declared.witness_circuit.Register.{Register}
use Rattle.gipmc_circuits.specs.declared.witness_circuit.WitnessCircuit.{WitnessCircuit}
use Rattle.gipmc_circuits.specs.WitnessCircuits.{next_link, reset_link, unlinked, unlinked_variables}
use Rattle.gipmc_aiger.specs.declared.header.Header.{Header}
use Rattle.gipmc_aiger.specs.Circuits.{bads_of, behind_liveness, defined_at, gate_at, greatest_literal, header_at, input_at, literal_at, literal_of, rows_at, separated_at}
use Rattle.gipmc_aiger.specs.Reading.{◌>>=◌, expected_at, number_at, optional_at}
use Rattle.gipmc_aiger.specs.Sharing.{shared_with}
use Rattle.gipmc_aiger.specs.Tails.{is_tail}

-- the latch at a place: its variable in the ascii form, its next literal, and the literal of its reset, 0 where there is
-- none
unfoldable pub register_at : Header → ℕ → List ℕ → Option (Register × List ℕ)
register_at h place bytes = do
  variable ← defined_at h (h.sizes.inputs + 1 + place) bytes
  rest ← separated_at h.form space variable.1
  next ← number_at (greatest_literal h) rest
  code ← optional_at (greatest_literal h) next.1
  rest ← expected_at line_feed code.1
  Some (
    record { variable = variable.0; next = literal_of next.0; reset = literal_of (unwrap_or code.0 0) },
    rest,
  )

-- the rows of a certificate, without where they lie in memory, and the bytes behind them: symbols, and a comment
pub record WitnessRows : Type 0 where
  pub inputs : List ℕ
  pub registers : List Register
  pub gates : List And
  pub bads : List Lit
  pub constraints : List Lit
  pub symbols : List ℕ

-- the rows of a circuit with these latches, and such bytes behind them
abbrev pub witness_rows : Circuit → List Register → List ℕ → WitnessRows
witness_rows c registers symbols = record {
  inputs = c.inputs.items;
  registers = registers;
  gates = c.gates.items;
  bads = c.bads.items;
  constraints = c.constraints.items;
  symbols = symbols;
}

-- the certificate that the rows behind a header write: as those of a circuit, with such latches
unfoldable pub witness_body_at : Header → List ℕ → Option WitnessRows
witness_body_at h bytes = do
  inputs ← rows_at (input_at h) 0 h.sizes.inputs bytes
  registers ← rows_at (register_at h) 0 h.sizes.latches inputs.1
  outputs ← rows_at (literal_at h) 0 h.sizes.outputs registers.1
  bads ← rows_at (literal_at h) 0 h.bads outputs.1
  constraints ← rows_at (literal_at h) 0 h.constraints bads.1
  rest ← behind_liveness h constraints.1
  gates ← rows_at (gate_at h) 0 h.sizes.gates rest
  if is_tail h gates.1
      then Some (record {
        inputs = inputs.0;
        registers = registers.0;
        gates = gates.0;
        bads = bads_of h outputs.0 bads.0;
        constraints = constraints.0;
        symbols = gates.1;
      })
      else None

-- the certificate that a text writes in either form, if it has one
unfoldable pub witness_rows_of : List ℕ → Option WitnessRows
witness_rows_of text = do
  header ← header_at text
  witness_body_at header.0 header.1

-- the certificate has these gates in some order, these bad literals and constraints; it shares with the circuit what its
-- symbols say, and as its own it has the other latches and inputs
pub record IsWitnessOf (c : Circuit) (n : WitnessRows) (w : WitnessCircuit) : Type 0 where
  pub gates : IsPermutation n.gates w.circuit.gates.items
  pub bads : w.circuit.bads.items ≡ n.bads
  pub constraints : w.circuit.constraints.items ≡ n.constraints
  pub shared : w.shared.items ≡ shared_with c n.inputs n.registers n.symbols
  pub resets : w.resets.items ≡ map reset_link (unlinked w.shared.items n.registers)
  pub nexts : w.nexts.items ≡ map next_link (unlinked w.shared.items n.registers)
  pub inputs : w.inputs.items ≡ unlinked_variables w.shared.items n.inputs

-- a text writes a certificate of the circuit
abbrev pub WritesWitness : Circuit → List ℕ → WitnessCircuit → Type 0
WritesWitness c text w = (n : WitnessRows) × (witness_rows_of text ≡ Some n) × IsWitnessOf c n w
