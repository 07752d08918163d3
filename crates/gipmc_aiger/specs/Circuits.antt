-- Which circuit a text in a form of AIGER writes.
use Rattle.std.specs.Prelude.{◌≡◌, ℕ, zero, suc, ◌+◌, ◌-◌, ◌*◌, ◌/◌, ◌%◌, ◌&&◌, min, Bool, true, false, List, [], ◌∷◌, length, Option, Some, None, nat_lt, nat_le, ◌==◌, if◌then◌else◌, unwrap_or}
use Rattle.std.specs.List.Sorted.{IsPermutation}
use Rattle.std.specs.Str.{byte}
use Rattle.gipsat_cnf.specs.Literals.{Lit}
use Rattle.gipmc_circuits.specs.declared.circuit.And.{And}
use Rattle.gipmc_circuits.specs.declared.circuit.Latch.{Latch}
use Rattle.gipmc_circuits.specs.declared.circuit.Circuit.{Circuit}
use Rattle.gipmc_aiger.specs.declared.header.Form.{Form}
use Rattle.gipmc_aiger.specs.declared.header.Form.TheVariants.{Ascii, Binary}
use Rattle.gipmc_aiger.specs.declared.header.Sizes.{Sizes}
use Rattle.gipmc_aiger.specs.declared.header.Properties.{Properties}
use Rattle.gipmc_aiger.specs.declared.header.Header.{Header}
use Rattle.gipmc_aiger.specs.declared.header.Justice.{Justice}
use Rattle.giputils_text.specs.Lines.{line_feed, space}
use Rattle.gipmc_aiger.specs.Reading.{◌>>=◌, expected_at, number_at, optional_at, delta_at}
use Rattle.gipmc_aiger.specs.Tails.{is_tail}

-- the greatest number of a header
abbrev pub greatest_count : ℕ
greatest_count = 2147483647

-- the form that a second letter names: `a` or `i`
abbrev pub letter_at : List ℕ → Option (Form × List ℕ)
letter_at [] = None
letter_at (letter ∷ rest) =
    if letter == byte "a" then Some (Ascii, rest) else if letter == byte "i" then Some (Binary, rest) else None

-- the form that the first word names: `aag` or `aig`
abbrev pub form_at : List ℕ → Option (Form × List ℕ)
form_at bytes =
    expected_at (byte "a") bytes >>= λ rest. letter_at rest >>= λ form.
    expected_at (byte "g") form.1 >>= λ rest. Some (form.0, rest)

-- a number behind a space
abbrev pub count_at : List ℕ → Option (ℕ × List ℕ)
count_at bytes = expected_at space bytes >>= λ rest. number_at greatest_count rest

-- the number behind a space, or 0 where no space follows
abbrev pub optional_count_at : List ℕ → Option (ℕ × List ℕ)
optional_count_at bytes = optional_at greatest_count bytes >>= λ n. Some (unwrap_or n.0 0, n.1)

-- the first five numbers of a header
unfoldable pub sizes_at : List ℕ → Option (Sizes × List ℕ)
sizes_at bytes = do
  maximum ← count_at bytes
  inputs ← count_at maximum.1
  latches ← count_at inputs.1
  outputs ← count_at latches.1
  gates ← count_at outputs.1
  Some (
    record { maximum = maximum.0; inputs = inputs.0; latches = latches.0; outputs = outputs.0; gates = gates.0 },
    gates.1,
  )

-- the other four numbers of a header
unfoldable pub properties_at : List ℕ → Option (Properties × List ℕ)
properties_at bytes = do
  bads ← optional_count_at bytes
  constraints ← optional_count_at bads.1
  justice ← optional_count_at constraints.1
  fairness ← optional_count_at justice.1
  Some (record { bads = bads.0; constraints = constraints.0; justice = justice.0; fairness = fairness.0 }, fairness.1)

-- the variables are enough for inputs, latches and gates, and in the binary form no more
abbrev pub has_counts : Form → Sizes → Bool
has_counts Ascii sizes = nat_le (sizes.inputs + sizes.latches + sizes.gates) sizes.maximum
has_counts Binary sizes = (sizes.inputs + sizes.latches + sizes.gates) == sizes.maximum

-- the header of a text, and the bytes behind its line
unfoldable pub header_at : List ℕ → Option (Header × List ℕ)
header_at bytes = do
  form ← form_at bytes
  sizes ← sizes_at form.1
  properties ← properties_at sizes.1
  rest ← expected_at line_feed properties.1
  if has_counts form.0 sizes.0
      then Some (
        record {
          form = form.0;
          sizes = sizes.0;
          bads = properties.0.bads;
          constraints = properties.0.constraints;
          justice = properties.0.justice;
          fairness = properties.0.fairness;
        },
        rest,
      )
      else None

-- this is the header of the text
abbrev pub IsHeaderOf : List ℕ → Header → Type 0
IsHeaderOf text h = (rest : List ℕ) × (header_at text ≡ Some (h, rest))

-- so many rows, by what the row at each place says
abbrev pub rows_at : {X : Type 0} → (ℕ → List ℕ → Option (X × List ℕ)) → ℕ → ℕ → List ℕ → Option (List X × List ℕ)
rows_at row place zero bytes = Some ([], bytes)
rows_at row place (suc n) bytes =
    row place bytes >>= λ first. rows_at row (place + 1) n first.1 >>= λ others. Some (first.0 ∷ others.0, others.1)

-- the greatest literal of a text, as far as literals go
abbrev pub greatest_literal : Header → ℕ
greatest_literal h = min (2 * h.sizes.maximum + 1) 4294967295

-- the literal of a number: twice its variable, and 1 more for the negation
abbrev pub literal_of : ℕ → Lit
literal_of n = record { variable = n / 2; positive = n % 2 == 0 }

-- the variable of a literal that is neither negated nor constant
abbrev pub variable_of : ℕ → Option ℕ
variable_of n = if n % 2 == 1 then None else if n == 0 then None else Some (n / 2)

-- the variable of the literal at the front
abbrev pub leading_at : Header → List ℕ → Option (ℕ × List ℕ)
leading_at h bytes =
    number_at (greatest_literal h) bytes >>= λ n. variable_of n.0 >>= λ variable. Some (variable, n.1)

-- the variable with this number, if the text has so many
abbrev pub numbered_at : Header → ℕ → List ℕ → Option (ℕ × List ℕ)
numbered_at h number bytes =
    if nat_lt h.sizes.maximum number then None else if nat_lt greatest_count number then None else Some (number, bytes)

-- the variable that a row defines: in the binary form the one with this number, else that of the literal at the front
abbrev pub defined_in : Form → Header → ℕ → List ℕ → Option (ℕ × List ℕ)
defined_in Ascii h number bytes = leading_at h bytes
defined_in Binary h number bytes = numbered_at h number bytes

abbrev pub defined_at : Header → ℕ → List ℕ → Option (ℕ × List ℕ)
defined_at h number bytes = defined_in h.form h number bytes

-- what stands behind a byte; in the binary form there is no such byte
abbrev pub separated_at : Form → ℕ → List ℕ → Option (List ℕ)
separated_at Ascii byte bytes = expected_at byte bytes
separated_at Binary byte bytes = Some bytes

-- the input at a place: its variable, in a line of the ascii form
abbrev pub input_at : Header → ℕ → List ℕ → Option (ℕ × List ℕ)
input_at h place bytes =
    defined_at h (place + 1) bytes >>= λ variable.
    separated_at h.form line_feed variable.1 >>= λ rest. Some (variable.0, rest)

-- a line with a literal
abbrev pub literal_at : Header → ℕ → List ℕ → Option (Lit × List ℕ)
literal_at h place bytes =
    number_at (greatest_literal h) bytes >>= λ n. expected_at line_feed n.1 >>= λ rest. Some (literal_of n.0, rest)

-- the reset of a latch by its number: 0, or 1, or the latch itself; 0 where there is none
abbrev pub reset_of : ℕ → Option ℕ → Option (Option Bool)
reset_of variable None = Some (Some false)
reset_of variable (Some n) =
    if n == 0 then Some (Some false) else if n == 1 then Some (Some true)
    else if n == 2 * variable then Some None else None

-- the latch at a place: its variable in the ascii form, its next literal, and its reset, if there is one
unfoldable pub latch_at : Header → ℕ → List ℕ → Option (Latch × List ℕ)
latch_at h place bytes = do
  variable ← defined_at h (h.sizes.inputs + 1 + place) bytes
  rest ← separated_at h.form space variable.1
  next ← number_at (greatest_literal h) rest
  code ← optional_at (greatest_literal h) next.1
  reset ← reset_of variable.0 code.0
  rest ← expected_at line_feed code.1
  Some (record { variable = variable.0; next = literal_of next.0; reset = reset }, rest)

-- the numbers of the operands of a gate in the rest of a line
unfoldable pub written_operands_at : Header → List ℕ → Option (ℕ × ℕ × List ℕ)
written_operands_at h bytes = do
  rest ← expected_at space bytes
  left ← number_at (greatest_literal h) rest
  rest ← expected_at space left.1
  right ← number_at (greatest_literal h) rest
  rest ← expected_at line_feed right.1
  Some (left.0, right.0, rest)

-- the numbers of the operands by how far the first is below the output, and the second below the first
unfoldable pub packed_operands_at : ℕ → List ℕ → Option (ℕ × ℕ × List ℕ)
packed_operands_at output bytes = do
  first ← delta_at 5 bytes
  second ← delta_at 5 first.1
  if first.0 == 0 then None else if nat_lt (2 * output) (first.0 + second.0) then None
      else Some (2 * output - first.0, 2 * output - first.0 - second.0, second.1)

-- the numbers of the operands of a gate with this output
abbrev pub operands_in : Form → Header → ℕ → List ℕ → Option (ℕ × ℕ × List ℕ)
operands_in Ascii h output bytes = written_operands_at h bytes
operands_in Binary h output bytes = packed_operands_at output bytes

abbrev pub operands_at : Header → ℕ → List ℕ → Option (ℕ × ℕ × List ℕ)
operands_at h output bytes = operands_in h.form h output bytes

-- the gate at a place: its output in the ascii form, and its operands
unfoldable pub gate_at : Header → ℕ → List ℕ → Option (And × List ℕ)
gate_at h place bytes = do
  output ← defined_at h (h.sizes.inputs + h.sizes.latches + 1 + place) bytes
  operands ← operands_at h output.0 output.1
  Some (record { output = output.0; left = literal_of operands.0; right = literal_of operands.1 }, operands.2)

-- how many literals the justice property at a place has: a line with a number
abbrev pub justice_at : Header → ℕ → List ℕ → Option (Justice × List ℕ)
justice_at h place bytes =
    number_at greatest_count bytes >>= λ n. expected_at line_feed n.1 >>= λ rest.
    Some (record { literals = n.0 }, rest)

-- the literals of justice properties, each of which has so many lines
abbrev pub justice_literals_at : Header → List Justice → List ℕ → Option (List (List Lit) × List ℕ)
justice_literals_at h [] bytes = Some ([], bytes)
justice_literals_at h (property ∷ properties) bytes =
    rows_at (literal_at h) 0 property.literals bytes >>= λ literals.
    justice_literals_at h properties literals.1 >>= λ others. Some (literals.0 ∷ others.0, others.1)

-- the literals of each justice property, of which the numbers stand first and then the literals, and the fairness
-- constraints
unfoldable pub liveness_at : Header → List ℕ → Option (List (List Lit) × List Lit × List ℕ)
liveness_at h bytes = do
  properties ← rows_at (justice_at h) 0 h.justice bytes
  justice ← justice_literals_at h properties.0 properties.1
  fairness ← rows_at (literal_at h) 0 h.fairness justice.1
  Some (justice.0, fairness.0, fairness.1)

-- what stands behind them
abbrev pub behind_liveness : Header → List ℕ → Option (List ℕ)
behind_liveness h bytes = liveness_at h bytes >>= λ l. Some l.2

-- the rows of a circuit, without where they lie in memory
pub record Rows : Type 0 where
  pub inputs : List ℕ
  pub latches : List Latch
  pub gates : List And
  pub bads : List Lit
  pub constraints : List Lit

-- the rows of a circuit
abbrev pub rows_of : Circuit → Rows
rows_of c = record {
  inputs = c.inputs.items;
  latches = c.latches.items;
  gates = c.gates.items;
  bads = c.bads.items;
  constraints = c.constraints.items;
}

-- the rows of a circuit, the literals of each justice property, and the fairness constraints
pub record LiveRows : Type 0 where
  pub circuit : Rows
  pub justice : List (List Lit)
  pub fairness : List Lit

-- the outputs, where a text has neither bad literals nor justice properties; else the bad literals
abbrev pub bads_of : Header → List Lit → List Lit → List Lit
bads_of h outputs bads = if (h.bads == 0) && (h.justice == 0) then outputs else bads

-- what the rows behind a header write: inputs, latches, outputs, bad literals, constraints, justice properties, fairness
-- constraints, gates
unfoldable pub body_at : Header → List ℕ → Option LiveRows
body_at h bytes = do
  inputs ← rows_at (input_at h) 0 h.sizes.inputs bytes
  latches ← rows_at (latch_at h) 0 h.sizes.latches inputs.1
  outputs ← rows_at (literal_at h) 0 h.sizes.outputs latches.1
  bads ← rows_at (literal_at h) 0 h.bads outputs.1
  constraints ← rows_at (literal_at h) 0 h.constraints bads.1
  live ← liveness_at h constraints.1
  gates ← rows_at (gate_at h) 0 h.sizes.gates live.2
  if is_tail h gates.1
      then Some (record {
        circuit = record {
          inputs = inputs.0;
          latches = latches.0;
          gates = gates.0;
          bads = bads_of h outputs.0 bads.0;
          constraints = constraints.0;
        };
        justice = live.0;
        fairness = live.1;
      })
      else None

-- what a text writes in either form, if it has one
unfoldable pub live_rows_of : List ℕ → Option LiveRows
live_rows_of text = do
  header ← header_at text
  body_at header.0 header.1

-- there are justice properties, and no bad literals
abbrev pub is_live_alone : LiveRows → Bool
is_live_alone n = nat_lt 0 (length n.justice) && (length n.circuit.bads == 0)

-- the circuit of rows; justice properties stand beside bad literals alone
abbrev pub circuit_in : LiveRows → Option Rows
circuit_in n = if is_live_alone n then None else Some n.circuit

-- the circuit that a text writes in either form, if it has one
unfoldable pub circuit_of : List ℕ → Option Rows
circuit_of text = live_rows_of text >>= circuit_in

-- the same circuit with its gates in some order
pub record IsReordering (old new : Rows) : Type 0 where
  pub inputs : new.inputs ≡ old.inputs
  pub latches : new.latches ≡ old.latches
  pub gates : IsPermutation old.gates new.gates
  pub bads : new.bads ≡ old.bads
  pub constraints : new.constraints ≡ old.constraints

-- a text writes a circuit, whose gates may stand in another order
abbrev pub Writes : List ℕ → Circuit → Type 0
Writes text c = (n : Rows) × (circuit_of text ≡ Some n) × IsReordering n (rows_of c)
